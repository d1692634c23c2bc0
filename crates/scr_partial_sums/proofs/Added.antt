-- The sum of ends, as the code goes.
use Rattle.std.proofs.Common.{◌≡◌, ℕ, ◌+◌, ◌<◌, ◌≤◌, ◌+ℤ◌, List, ◌∷◌, length, get_or, drop, unsigned_abs, sym, ap, ◌∙◌, arith}
use Rattle.std.proofs.lemmas.List.{drop_more, drop_all}
use Rattle.std.proofs.lemmas.List.Sums.{sum_by-cons}
use Rattle.scr_num.specs.Rounding.{Ends, add_ends}
use Rattle.scr_num.specs.Sums.{sum_ends}
use Rattle.scr_num.proofs.AddedEnds.{add_ends-assoc, add_ends-zero}
use Rattle.scr_num.proofs.SumLemmas.{abs-add}
use Rattle.scr_num.proofs.Totals.{lows, highs}

-- the sum so far, and the ends from place i on
pub record AddedTo (all : List Ends) (sum : Ends) (i : ℕ) : Type 0 where
  pub total : add_ends sum (sum_ends (drop i all)) ≡ sum_ends all
  pub low : unsigned_abs sum.low + lows (drop i all) ≤ lows all
  pub high : unsigned_abs sum.high + highs (drop i all) ≤ highs all

pub added-next : (all : List Ends) (sum one next : Ends) (i : ℕ) → i < length all → get_or all i one ≡ one → next ≡ add_ends sum one
    → AddedTo all sum i → AddedTo all next (i + 1)
added-next all sum one next i lt at e h =
    let split : drop i all ≡ one ∷ drop (i + 1) all = drop_more all i one lt ∙ ap (λ s. s ∷ drop (i + 1) all) at in
    let low : next.low ≡ sum.low +ℤ one.low = ap (λ (x : Ends). x.low) e in
    let high : next.high ≡ sum.high +ℤ one.high = ap (λ (x : Ends). x.high) e in
    let low_rest = ap lows split ∙ sum_by-cons (λ (e : Ends). unsigned_abs e.low) one (drop (i + 1) all) in
    let high_rest = ap highs split ∙ sum_by-cons (λ (e : Ends). unsigned_abs e.high) one (drop (i + 1) all) in
    record {
      total = ap (λ (x : Ends). add_ends x (sum_ends (drop (i + 1) all))) e
          ∙ add_ends-assoc sum one (sum_ends (drop (i + 1) all))
          ∙ ap (λ l. add_ends sum (sum_ends l)) (sym split)
          ∙ h.total;
      low = rw low (omega (arith, abs-add sum.low one.low, low_rest, h.low));
      high = rw high (omega (arith, abs-add sum.high one.high, high_rest, h.high));
    }

pub added-end : (all : List Ends) (sum : Ends) (i : ℕ) → length all ≤ i → AddedTo all sum i → sum ≡ sum_ends all
added-end all sum i most h =
    sym (ap (λ l. add_ends sum (sum_ends l)) (drop_all i all most) ∙ add_ends-zero sum) ∙ h.total

-- what is added next keeps to 128 bits
pub next-low : (all : List Ends) (sum one : Ends) (i most : ℕ) → i < length all → get_or all i one ≡ one → lows all ≤ most → AddedTo all sum i
    → unsigned_abs one.low ≤ most
next-low all sum one i most lt at small h =
    let split = ap lows (drop_more all i one lt ∙ ap (λ s. s ∷ drop (i + 1) all) at) ∙ sum_by-cons (λ (e : Ends). unsigned_abs e.low) one (drop (i + 1) all) in
    omega (arith, split, h.low, small)

pub next-high : (all : List Ends) (sum one : Ends) (i most : ℕ) → i < length all → get_or all i one ≡ one → highs all ≤ most → AddedTo all sum i
    → unsigned_abs one.high ≤ most
next-high all sum one i most lt at small h =
    let split = ap highs (drop_more all i one lt ∙ ap (λ s. s ∷ drop (i + 1) all) at) ∙ sum_by-cons (λ (e : Ends). unsigned_abs e.high) one (drop (i + 1) all) in
    omega (arith, split, h.high, small)
