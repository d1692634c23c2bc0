-- Which of several exact outcomes is chosen.
use Rattle.std.proofs.Common.{◌≡◌, ℕ, zero, suc, ◌<◌, ◌≤◌, ℤ, pos, ◌*ℤ◌, ◌≤ℤ◌, Bool, true, false, not, ◌&&◌, int_lt}
use Rattle.std.proofs.Common.{inl, inr, ◌⊎◌, List, length, cond, refl, arith}
use Rattle.std.proofs.lemmas.Int.{ints}
use Rattle.std.proofs.lemmas.Bool.{cases_lt, or_cases, or_parts, and_parts, and_cases, not-true, not-false}
use Rattle.scr_num.specs.Fraction.{Fraction, ◌≼◌, is_less}
use Rattle.scr_num.proofs.Fractions.{≼_refl, ≼_trans}
use Rattle.scr_agg.specs.Choice.{Outcome, outcome_at, IsChosen, surpasses, chosen_below, chosen}

-- ---- the order of fractions, as a test
pub not_less : (p q : Fraction) → is_less p q ≡ false → q ≼ p
not_less p q e = record { cross = at_least (p.num *ℤ pos q.den) (q.num *ℤ pos p.den) e }
  where
    at_least : (a b : ℤ) → int_lt a b ≡ false → b ≤ℤ a
    at_least a b e = grind (arith, ints)

less_not : (p q : Fraction) → is_less p q ≡ true → q ≼ p → ⊥
less_not p q e h = both (p.num *ℤ pos q.den) (q.num *ℤ pos p.den) e h.cross
  where
    both : (a b : ℤ) → int_lt a b ≡ true → b ≤ℤ a → ⊥
    both a b e h = grind (arith, ints)

pub less_le : (p q : Fraction) → is_less p q ≡ true → p ≼ q
less_le p q e = record { cross = at_most (p.num *ℤ pos q.den) (q.num *ℤ pos p.den) e }
  where
    at_most : (a b : ℤ) → int_lt a b ≡ true → a ≤ℤ b
    at_most a b e = grind (arith, ints)

same : (p : Fraction) → p ≼ p
same p = ≼_refl p p refl refl

-- ---- the one chosen among the first n
record IsChosenBelow (list : List Outcome) (n place : ℕ) : Type 0 where
  listed : (place < n) ⊎ (n ≡ 0)
  greatest_net : (j : ℕ) → j < n → (outcome_at list j).net ≼ (outcome_at list place).net
  greatest_gross : (j : ℕ) → j < n → (outcome_at list place).net ≼ (outcome_at list j).net
      → (outcome_at list j).gross ≼ (outcome_at list place).gross
  first : (j : ℕ) → j < n → (outcome_at list place).net ≼ (outcome_at list j).net
      → (outcome_at list place).gross ≼ (outcome_at list j).gross → place ≤ j

-- places below suc n
each : {P : ℕ → Type 0} (n : ℕ) → ((j : ℕ) → j < n → P j) → P n → (j : ℕ) → j < suc n → P j
each {P} n before here j lt = elim (cases_lt j n)
    [ inl below ↦ before j below | inr above ↦ let at : j ≡ n = omega arith in rw at here ]

-- the next one is not taken
kept : (list : List Outcome) (n m : ℕ) → IsChosenBelow list n m → 0 < n
    → surpasses (outcome_at list n) (outcome_at list m) ≡ false → IsChosenBelow list (suc n) m
kept list n m h some e =
    let x = outcome_at list n in
    let y = outcome_at list m in
    let parts = or_parts (is_less y.net x.net) (not (is_less x.net y.net) && is_less y.gross x.gross) e in
    let net_at_most : x.net ≼ y.net = not_less y.net x.net parts.0 in
    let within : m < n = elim h.listed [ inl lt ↦ lt | inr none ↦ absurd (omega arith) ] in
    record {
      listed = inl (omega arith);
      greatest_net = each n h.greatest_net net_at_most;
      greatest_gross = each n h.greatest_gross
          (λ k. elim (and_cases (not (is_less x.net y.net)) (is_less y.gross x.gross) parts.1) [
            | inl less ↦ absurd (less_not x.net y.net (not-false (is_less x.net y.net) less) k)
            | inr gross ↦ not_less y.gross x.gross gross
          ]);
      first = each n h.first (λ k l. omega arith);
    }

-- the next one is taken, for its net or for its gross
taken_for_net : (list : List Outcome) (n m : ℕ) → IsChosenBelow list n m
    → is_less (outcome_at list m).net (outcome_at list n).net ≡ true → IsChosenBelow list (suc n) n
taken_for_net list n m h less =
    let x = outcome_at list n in
    let y = outcome_at list m in
    let above = less_le y.net x.net less in
    let never : (j : ℕ) → j < n → x.net ≼ (outcome_at list j).net → ⊥ = λ j lt k.
    less_not y.net x.net less (≼_trans x.net (outcome_at list j).net y.net k (h.greatest_net j lt)) in
    record {
      listed = inl (omega arith);
      greatest_net = each n (λ j lt. ≼_trans (outcome_at list j).net y.net x.net (h.greatest_net j lt) above)
          (same x.net);
      greatest_gross = each n (λ j lt k. absurd (never j lt k)) (λ k. same x.gross);
      first = each n (λ j lt k l. absurd (never j lt k)) (λ k l. omega arith);
    }

taken_for_gross : (list : List Outcome) (n m : ℕ) → IsChosenBelow list n m
    → (outcome_at list m).net ≼ (outcome_at list n).net
    → is_less (outcome_at list m).gross (outcome_at list n).gross ≡ true → IsChosenBelow list (suc n) n
taken_for_gross list n m h net less =
    let x = outcome_at list n in
    let y = outcome_at list m in
    let above = less_le y.gross x.gross less in
    let gross_below : (j : ℕ) → j < n → x.net ≼ (outcome_at list j).net → (outcome_at list j).gross ≼ y.gross =
    λ j lt k.
    h.greatest_gross j lt (≼_trans y.net x.net (outcome_at list j).net net k) in
    record {
      listed = inl (omega arith);
      greatest_net = each n (λ j lt. ≼_trans (outcome_at list j).net y.net x.net (h.greatest_net j lt) net)
          (same x.net);
      greatest_gross = each n (λ j lt k. ≼_trans (outcome_at list j).gross y.gross x.gross (gross_below j lt k) above)
          (λ k. same x.gross);
      first = each n
          (λ j lt k l. absurd
          (less_not y.gross x.gross less (≼_trans x.gross (outcome_at list j).gross y.gross l (gross_below j lt k))))
          (λ k l. omega arith);
    }

taken : (list : List Outcome) (n m : ℕ) → IsChosenBelow list n m
    → surpasses (outcome_at list n) (outcome_at list m) ≡ true → IsChosenBelow list (suc n) n
taken list n m h e =
    let x = outcome_at list n in
    let y = outcome_at list m in
    elim (or_cases (is_less y.net x.net) (not (is_less x.net y.net) && is_less y.gross x.gross) e) [
      | inl less ↦ taken_for_net list n m h less
      | inr both ↦
          let parts = and_parts (not (is_less x.net y.net)) (is_less y.gross x.gross) both in
          taken_for_gross list n m h (not_less x.net y.net (not-true (is_less x.net y.net) parts.0)) parts.1
    ]

none : (list : List Outcome) → IsChosenBelow list 0 0
none list = record {
  listed = inr refl;
  greatest_net = λ j lt. absurd (omega arith);
  greatest_gross = λ j lt. absurd (omega arith);
  first = λ j lt. absurd (omega arith);
}

-- the first one, which nothing stands before
only : (list : List Outcome) → IsChosenBelow list 1 0
only list = record {
  listed = inl (omega arith);
  greatest_net = each 0 (λ j lt. absurd (omega arith)) (same (outcome_at list 0).net);
  greatest_gross = each 0 (λ j lt. absurd (omega arith)) (λ k. same (outcome_at list 0).gross);
  first = each 0 (λ j lt. absurd (omega arith)) (λ k l. omega arith);
}

next : (list : List Outcome) (n m : ℕ) (b : Bool) → surpasses (outcome_at list n) (outcome_at list m) ≡ b
    → IsChosenBelow list n m → (0 < n) ⊎ ((n ≡ 0) × (m ≡ 0))
    → IsChosenBelow list (suc n) (cond b n m)
next list n m true e h place = taken list n m h e
next list n m false e h (inl some) = kept list n m h some e
next list n m false e h (inr (at, first)) = rw (at, first) (only list)

start : (list : List Outcome) (n : ℕ) → (0 < n) ⊎ ((n ≡ 0) × (chosen_below list n ≡ 0))
unfolding chosen_below
start list zero = inr (refl, refl)
start list (suc n) = inl (omega arith)

below : (list : List Outcome) (n : ℕ) → IsChosenBelow list n (chosen_below list n)
unfolding chosen_below
below list zero = none list
below list (suc n) =
    next list n (chosen_below list n) (surpasses (outcome_at list n) (outcome_at list (chosen_below list n))) refl
    (below list n) (start list n)

pub chosen-is : (list : List Outcome) → 0 < length list → IsChosen list (chosen list)
chosen-is list some =
    let h = below list (length list) in
    record {
      listed = elim h.listed [ inl lt ↦ lt | inr empty ↦ absurd (omega arith) ];
      greatest_net = h.greatest_net;
      greatest_gross = h.greatest_gross;
      first = h.first;
    }

-- no other place is
pub chosen-unique : (list : List Outcome) (i j : ℕ) → IsChosen list i → IsChosen list j → i ≡ j
chosen-unique list i j h k =
    let a : i ≤ j = h.first j k.listed (k.greatest_net i h.listed)
    (k.greatest_gross i h.listed (h.greatest_net j k.listed)) in
    let b : j ≤ i = k.first i h.listed (h.greatest_net j k.listed)
    (h.greatest_gross j k.listed (k.greatest_net i h.listed)) in
    omega arith
