-- Tests of numbers in a row.
use Rattle.std.proofs.Common.{◌≡◌, ℕ, zero, suc, ◌+◌, ◌<◌, ◌≤◌, Bool, true, false, List, ◌∷◌, Some, None, cond, inl}
use Rattle.std.proofs.Common.{inr, refl, arith}
use Rattle.std.specs.List.{find, list_all, range_with_len}
use Rattle.std.proofs.lemmas.Bool.{cases_lt, and_parts}

-- where all of them pass, each does
pub all-range : (p : ℕ → Bool) (a n k : ℕ) → list_all p (range_with_len a n) ≡ true → a ≤ k → k < a + n → p k ≡ true
all-range p a zero k h low high = absurd (omega arith)
all-range p a (suc n) k h low high =
    let (here, more) = and_parts (p a) (list_all p (range_with_len (a + 1) n)) h in
    elim (cases_lt a k) [
      | inl lt ↦ all-range p (a + 1) n k more (omega arith) (omega arith)
      | inr ge ↦ let same : k ≡ a = omega arith in rw same here
    ]

find-cons : {A : Type 0} (p : A → Bool) (x : A) (xs : List A) → find p (x ∷ xs) ≡ None
    → (p x ≡ false) × (find p xs ≡ None)
find-cons p x xs h = go (p x) refl h
  where
    go : (b : Bool) → p x ≡ b → cond b (Some x) (find p xs) ≡ None → (p x ≡ false) × (find p xs ≡ None)
    go true e none = cc
    go false e none = (e, none)

-- where a search finds none, none of them passes
pub find-range : (p : ℕ → Bool) (a n k : ℕ) → find p (range_with_len a n) ≡ None → a ≤ k → k < a + n → p k ≡ false
find-range p a zero k h low high = absurd (omega arith)
find-range p a (suc n) k h low high =
    let (here, more) = find-cons p a (range_with_len (a + 1) n) h in
    elim (cases_lt a k) [
      | inl lt ↦ find-range p (a + 1) n k more (omega arith) (omega arith)
      | inr ge ↦ let same : k ≡ a = omega arith in rw same here
    ]
