-- Where numbers are told apart by a way back, there are no more of them than there is place.
use Rattle.std.proofs.Common.{◌≡◌, ◌⊎◌, inl, inr, ℕ, zero, suc, ◌<◌, ◌≤◌, sym, ap, ◌∙◌, arith}
use Rattle.std.specs.Prelude.{◌==◌, if◌then◌else◌}
use Rattle.std.proofs.lemmas.Bool.{cases_eq, eq-eqb, ne_eqb}

abbrev put : ℕ → ℕ → (ℕ → ℕ) → ℕ → ℕ
put at value f k = if f k == at then value else f k

at-is : (at value : ℕ) (f : ℕ → ℕ) (k : ℕ) → f k ≡ at → put at value f k ≡ value
at-is at value f k e = ap (λ t. if t then value else f k) (eq-eqb (f k) at e)

other-is : (at value : ℕ) (f : ℕ → ℕ) (k : ℕ) → (f k ≡ at → ⊥) → put at value f k ≡ f k
other-is at value f k ne = ap (λ t. if t then value else f k) (ne_eqb (f k) at ne)

abbrev back-at : ℕ → ℕ → (ℕ → ℕ) → ℕ → ℕ
back-at at value g x = if x == at then value else g x

back-is : (at value : ℕ) (g : ℕ → ℕ) (x : ℕ) → x ≡ at → back-at at value g x ≡ value
back-is at value g x e = ap (λ t. if t then value else g x) (eq-eqb x at e)

back-other : (at value : ℕ) (g : ℕ → ℕ) (x : ℕ) → (x ≡ at → ⊥) → back-at at value g x ≡ g x
back-other at value g x ne = ap (λ t. if t then value else g x) (ne_eqb x at ne)

pub no-more : (most count : ℕ) (f g : ℕ → ℕ) → ((k : ℕ) → k < count → f k < most) → ((k : ℕ) → k < count → g (f k) ≡ k) → count ≤ most
no-more most zero f g low back = omega arith
no-more zero (suc n) f g low back = let none = low 0 (omega arith) in absurd (omega (arith, none))
no-more (suc m) (suc n) f g low back =
    let rest = no-more m n (put m (f n) f) (back-at (f n) (g m) g) below leads in
    omega (arith, rest)
  where
    apart : (k : ℕ) → k < n → f k ≡ f n → ⊥
    apart k l e =
        let one : g (f k) ≡ g (f n) = ap g e in
        let own = back k (omega (arith, l)) in
        let last = back n (omega arith) in
        omega (arith, one, own, last, l)

    below : (k : ℕ) → k < n → put m (f n) f k < m
    below k l = by (cases_eq (f k) m)
      where
        by : (f k ≡ m) ⊎ (f k ≡ m → ⊥) → put m (f n) f k < m
        by (inl e) =
            let is = at-is m (f n) f k e in
            let few = low n (omega arith) in
            let other : f n ≡ m → ⊥ = λ same. apart k l (e ∙ sym same) in
            omega (arith, is, few, other)
        by (inr ne) =
            let is = other-is m (f n) f k ne in
            let few = low k (omega (arith, l)) in
            omega (arith, is, few, ne)

    leads : (k : ℕ) → k < n → back-at (f n) (g m) g (put m (f n) f k) ≡ k
    leads k l = by (cases_eq (f k) m)
      where
        by : (f k ≡ m) ⊎ (f k ≡ m → ⊥) → back-at (f n) (g m) g (put m (f n) f k) ≡ k
        by (inl e) =
            back-is (f n) (g m) g (put m (f n) f k) (at-is m (f n) f k e) ∙ ap g (sym e) ∙ back k (omega (arith, l))
        by (inr ne) =
            ap (back-at (f n) (g m) g) (other-is m (f n) f k ne)
            ∙ back-other (f n) (g m) g (f k) (apart k l) ∙ back k (omega (arith, l))
