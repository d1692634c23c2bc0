-- A list in which nothing stands twice is no longer than one in which each of it has a place of its own.
use Rattle.std.proofs.Common.{◌≡◌, ◌⊎◌, inl, inr, ℕ, zero, suc, ◌+◌, ◌*◌, ◌<◌, ◌≤◌, List, [], ◌∷◌, ◌++◌, Some, length, slice_get, refl, sym, ap, subst, arith}
use Rattle.std.proofs.lemmas.List.{length-append}
use Rattle.scr_funds.proofs.Members.{IsMember, IsMember-cases, IsMember-left, IsMember-right}
use Rattle.scr_sum_tree.specs.Blocks.{HasEachOnce}

module _ {X : Type 0} where
  -- what stands in a list stands at a place
  pub member-at : (x : X) (xs : List X) → IsMember x xs → (k : ℕ) × (k < length xs) × (slice_get xs k ≡ Some x)
  member-at x [] h = absurd h
  member-at x (y ∷ ys) (inl e) = (0, omega arith, ap Some (sym e))
  member-at x (y ∷ ys) (inr h) = let at = member-at x ys h in (suc at.0, omega (arith, at.1), at.2)

  pub once-head : (x : X) (xs : List X) → HasEachOnce (x ∷ xs) → IsMember x xs → ⊥
  once-head x xs once h = let at = member-at x xs h in once 0 (suc at.0) (omega arith) (omega (arith, at.1)) (sym at.2)

  pub once-tail : (x : X) (xs : List X) → HasEachOnce (x ∷ xs) → HasEachOnce xs
  once-tail x xs once j k before inside same = once (suc j) (suc k) (omega (arith, before)) (omega (arith, inside)) same

  -- an element of a list, and what stands around it
  record Around (z : X) (zs : List X) : Type 0 where
    front : List X
    back : List X
    is : zs ≡ front ++ z ∷ back

  around : (z : X) (zs : List X) → IsMember z zs → Around z zs
  around z [] h = absurd h
  around z (y ∷ ys) (inl e) = record { front = []; back = ys; is = ap (λ t. t ∷ ys) (sym e) }
  around z (y ∷ ys) (inr h) = let a = around z ys h in record { front = y ∷ a.front; back = a.back; is = ap (λ t. y ∷ t) a.is }

module _ {X Z : Type 0} (At : X → Z → Type 0) (alone : (x y : X) (z : Z) → At x z → At y z → x ≡ y) where
  -- a place of its own for each
  pub no-more : (xs : List X) → HasEachOnce xs → (zs : List Z) → ((x : X) → IsMember x xs → (z : Z) × IsMember z zs × At x z)
      → length xs ≤ length zs
  no-more [] once zs each = omega arith
  no-more (x ∷ xs) once zs each =
      let own = each x (inl refl) in
      let a = around own.0 zs own.1 in
      let rest = no-more xs (once-tail x xs once) (a.front ++ a.back) (λ y h. elsewhere own.0 own.2 a.front a.back y h (each y (inr h)) a.is) in
      omega (arith, rest, ap length a.is, length-append a.front a.back, length-append a.front (own.0 ∷ a.back))
    where
      elsewhere : (z : Z) → At x z → (front back : List Z) (y : X) → IsMember y xs → (w : Z) × IsMember w zs × At y w → zs ≡ front ++ z ∷ back
          → (w : Z) × IsMember w (front ++ back) × At y w
      elsewhere z own front back y h at is = (at.0, by (IsMember-cases front (z ∷ back) at.0 (subst (IsMember at.0) is at.1)), at.2)
        where
          by : IsMember at.0 front ⊎ IsMember at.0 (z ∷ back) → IsMember at.0 (front ++ back)
          by (inl m) = IsMember-left front back at.0 m
          by (inr (inl e)) =
              absurd (once-head x xs once (subst (λ t. IsMember t xs) (sym (alone x y z own (subst (At y) e at.2))) h))
          by (inr (inr m)) = IsMember-right front back at.0 m

-- each four times
abbrev pub four : {Y : Type 0} → List Y → List (Y × ℕ)
four [] = []
four (y ∷ ys) = (y, 0) ∷ (y, 1) ∷ (y, 2) ∷ (y, 3) ∷ four ys

pub four-length : {Y : Type 0} (ys : List Y) → length (four ys) ≡ 4 * length ys
four-length [] = refl
four-length (y ∷ ys) = let rest = four-length ys in omega (arith, rest)

pub four-member : {Y : Type 0} (y : Y) (ys : List Y) (n : ℕ) → IsMember y ys → n < 4 → IsMember (y, n) (four ys)
four-member y [] n h few = absurd h
four-member y (x ∷ xs) n (inr h) few = inr (inr (inr (inr (four-member y xs n h few))))
four-member y (x ∷ xs) zero (inl e) few = inl (λ i. (e i, 0))
four-member y (x ∷ xs) (suc zero) (inl e) few = inr (inl (λ i. (e i, 1)))
four-member y (x ∷ xs) (suc (suc zero)) (inl e) few = inr (inr (inl (λ i. (e i, 2))))
four-member y (x ∷ xs) (suc (suc (suc zero))) (inl e) few = inr (inr (inr (inl (λ i. (e i, 3)))))
four-member y (x ∷ xs) (suc (suc (suc (suc n)))) (inl e) few = absurd (omega (arith, few))
