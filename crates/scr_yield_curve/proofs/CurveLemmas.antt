-- A curve in whole parts, place by place.
use Rattle.std.proofs.Common.{◌≡◌, ℕ, suc, ◌+◌, ◌*◌, ◌<◌, refl, ap, ap₂, sym, ◌∙◌, List, [], ◌∷◌, length, get_or, map, ℤ, pos, ◌+ℤ◌, ◌*ℤ◌, ◌≤ℤ◌, ◌<ℤ◌, arith}
use Rattle.std.proofs.Common.{◌≢◌, inl, inr, subst, set, get_or-set_other, get_or-set_same}
use Rattle.std.proofs.lemmas.Bool.{cases_lt}
use Rattle.std.specs.List.{range_with_len}
use Rattle.std.proofs.lemmas.Int.{ints}
use Rattle.std.proofs.Math.Nat.{lt_of_mul-lt-mul_right}
use borrow.Author.Differences.{up, down}
use Rattle.scr_num.specs.Fraction.{Fraction}
use Rattle.scr_num.specs.Enclosure.{Measures}
use Rattle.scr_num.proofs.Quotients.{floor_div-times, floor_div-next, times_cancel}
use Rattle.scr_yield_curve.specs.Parts.{parts, in_parts, AreRates}

-- ---- a whole number of parts is the floor of itself
between_one : (q n : ℤ) (d : ℕ) → 0 < d → (q *ℤ pos d) ≤ℤ (n *ℤ pos d) → (n *ℤ pos d) <ℤ (q *ℤ pos d +ℤ pos d) → q ≡ n
between_one q n d h below above =
    let a = times_cancel q n d h below in
    let scaled : (up n + down q) * d < (up q + down n + 1) * d = omega (arith, ints, above) in
    let b = lt_of_mul-lt-mul_right d scaled in
    at_once q n a b
  where
    at_once : (q n : ℤ) → q ≤ℤ n → up n + down q < up q + down n + 1 → q ≡ n
    at_once q n a b = omega (arith, ints, a, b)

pub in_parts_exact : (n : ℤ) (p : Fraction) → Measures parts n p → n ≡ in_parts p
in_parts_exact n p m =
    let whole = m.equal in
    let below : (in_parts p *ℤ pos p.den) ≤ℤ (n *ℤ pos p.den) = rw whole (floor_div-times (p.num *ℤ pos parts) p.den p.positive) in
    let above : (n *ℤ pos p.den) <ℤ (in_parts p *ℤ pos p.den +ℤ pos p.den) = rw whole (floor_div-next (p.num *ℤ pos parts) p.den p.positive) in
    sym (between_one (in_parts p) n p.den p.positive below above)

-- ---- a list by its places
pub list_by_place : (f : ℕ → ℤ) (first : ℕ) (xs : List ℤ) → ((k : ℕ) (d : ℤ) → k < length xs → get_or xs k d ≡ f (first + k)) → xs ≡ map f (range_with_len first (length xs))
list_by_place f first [] h = refl
list_by_place f first (x ∷ xs) h =
    ap₂ (λ (y : ℤ) (ys : List ℤ). y ∷ ys) (h 0 x (omega arith) ∙ ap f (omega arith))
    (list_by_place f (first + 1) xs (λ k d within. h (suc k) d (omega (arith, within)) ∙ ap f (omega arith)))

pub curve_by_place : (curve : List ℤ) (rate : ℕ → Fraction) → length curve ≡ 100 → AreRates curve rate → curve ≡ map (λ years. in_parts (rate years)) (range_with_len 1 100)
curve_by_place curve rate e h =
    rw e at (list_by_place (λ years. in_parts (rate years)) 1 curve (λ k d within. in_parts_exact _ (rate (k + 1)) (h.each k d within) ∙ ap (λ (j : ℕ). in_parts (rate j)) (omega arith)))

-- ---- one more place
pub one_more_place : {A : Type 0} (P : ℕ → A → Type 0) (xs : List A) (i : ℕ) (y : A) → i < length xs → ((k : ℕ) (d : A) → k < i → P k (get_or xs k d)) → P i y
    → (k : ℕ) (d : A) → k < i + 1 → P k (get_or (set xs i y) k d)
one_more_place {A} P xs i y inside before here k d within =
    elim (cases_lt k i) [
      | inl below ↦ let other : k ≢ i = omega (arith, below) in subst (P k) (sym (get_or-set_other xs i k y d other)) (before k d below)
      | inr above ↦ let same : k ≡ i = omega (arith, within, above) in
          rw same (subst (P i) (sym (get_or-set_same xs i y d inside)) here)
    ]
