-- What the code of biometric stresses keeps along its loop, and how its steps meet the rule.
use Rattle.std.proofs.Common.{◌≡◌, ℕ, zero, suc, ◌+◌, ◌<◌, ◌≤◌, List, [], ◌∷◌, ◌++◌, Option, Some, None, length, map, get_or, set, take, refl, ap, ap₂, sym, ◌∙◌, ℤ, pos, ◌-ℤ◌, length-set, sum_by, unsigned_abs, arith}
use Rattle.std.specs.List.{range_with_len}
use Rattle.std.specs.Option.{option_map}
use Rattle.std.proofs.lemmas.List.{take_more_set, take_all}
use Rattle.std.proofs.lemmas.List.Sums.{sum_by-cons}
use Rattle.std.proofs.lemmas.List.FromFn.{get_or-map-range_with_len, map-range_with_len_more}
use Rattle.scr_num.specs.Rounding.{Ends, exact_ends, max_ends}
use Rattle.scr_dates.specs.declared.day.Day.{Day}
use Rattle.scr_flow.specs.Due.{due_in, dues}
use Rattle.scr_flow.specs.LossEnds.{present_ends}
use Rattle.scr_flow.proofs.SizeLemmas.{dues-within}
use Rattle.scr_sheet.specs.BalanceSheet.{curve_name}
use Rattle.scr_sheet.specs.declared.{rows.Curve.Curve, sheet.BalanceSheet.BalanceSheet}
use Rattle.scr_nodes.specs.Own.{Valued}
use Rattle.scr_discounts.specs.Discounts.{CurrencyDiscounts}
use Rattle.scr_discounts.specs.Kept.{row_in}
use Rattle.scr_rules.specs.LifeFits.{FitsExcess}
use Rattle.scr_rules.specs.LifeRules.{excess_dues, excess_ends, less_at}
use Rattle.scr_rules.specs.Paid.{valued_in}
use Rattle.scr_rules.proofs.CodeLemmas.{IsRowAt}
use Rattle.scr_rules.proofs.ExcessValues.{apart-small}

-- the differences at the first k places
pub record AreDifferences (amounts others list : List ℤ) (k : ℕ) : Type 0 where
  pub count : length list ≡ 100
  pub so_far : take k list ≡ map (less_at amounts others) (range_with_len 0 k)

pub differences-more : (amounts others list : List ℤ) (k : ℕ) (z : ℤ) → k < 100 → z ≡ less_at amounts others k → AreDifferences amounts others list k
    → AreDifferences amounts others (set list k z) (k + 1)
differences-more amounts others list k z within is h = record {
  count = length-set list k z ∙ h.count;
  so_far =
      take_more_set list k z (omega (arith, within, h.count))
      ∙ ap₂ (λ (xs : List ℤ) (x : ℤ). xs ++ x ∷ []) h.so_far is
      ∙ sym (map-range_with_len_more (less_at amounts others) 0 k k (omega arith));
}

pub differences-all : (amounts others list : List ℤ) (k : ℕ) → k ≡ 100 → AreDifferences amounts others list k → list ≡ map (less_at amounts others) (range_with_len 0 100)
differences-all amounts others list k is h =
    sym (take_all 100 list (omega (arith, h.count))) ∙ ap (λ (n : ℕ). take n list) (sym is) ∙ h.so_far ∙ ap (λ (n : ℕ). map (less_at amounts others) (range_with_len 0 n)) is

-- one list at two ranges
along : (f g : ℕ → ℤ) (a b n : ℕ) → ((i : ℕ) → i < n → f (a + i) ≡ g (b + i)) → map f (range_with_len a n) ≡ map g (range_with_len b n)
along f g a b zero same = refl
along f g a b (suc n) same =
    ap₂ (λ (x : ℤ) (xs : List ℤ). x ∷ xs) (ap f (omega arith) ∙ same 0 (omega arith) ∙ ap g (omega arith))
    (along f g (a + 1) (b + 1) n (λ i lt. ap f (omega arith) ∙ same (i + 1) (omega (arith, lt)) ∙ ap g (omega arith)))

-- the differences of what falls due
pub differences-due : (asof : ℤ) (stressed base : List (Day × ℤ)) → map (less_at (dues asof stressed) (dues asof base)) (range_with_len 0 100) ≡ excess_dues asof stressed base
differences-due asof stressed base =
    along (less_at (dues asof stressed) (dues asof base)) (λ years. due_in asof stressed years -ℤ due_in asof base years) 0 1 100
    (λ i lt.
    ap₂ ◌-ℤ◌ (get_or-map-range_with_len (due_in asof stressed) 1 100 (0 + i) (1 + i) (pos 0) (omega (arith, lt)) (omega arith))
    (get_or-map-range_with_len (due_in asof base) 1 100 (0 + i) (1 + i) (pos 0) (omega (arith, lt)) (omega arith)))

-- an amount is no larger than all together
pub one-of-sum : (xs : List ℤ) (k : ℕ) → k < length xs → unsigned_abs (get_or xs k (pos 0)) ≤ sum_by unsigned_abs xs
one-of-sum [] k within = absurd (omega (arith, within))
one-of-sum (x ∷ xs) zero within = omega (arith, sum_by-cons unsigned_abs x xs)
one-of-sum (x ∷ xs) (suc k) within = omega (arith, sum_by-cons unsigned_abs x xs, one-of-sum xs k (omega (arith, within)))

-- ---- the steps that meet the rule
pub flows-are : (asof : ℤ) (stressed base : List (Day × ℤ)) (a b flows : List ℤ) → a ≡ dues asof stressed → b ≡ dues asof base → flows ≡ map (less_at a b) (range_with_len 0 100)
    → flows ≡ excess_dues asof stressed base
flows-are asof stressed base a b flows is_a is_b is = is ∙ ap₂ (λ (x : List ℤ) (y : List ℤ). map (less_at x y) (range_with_len 0 100)) is_a is_b ∙ differences-due asof stressed base

pub flows-small : (valued : Valued) (stressed : List (Day × ℤ)) → FitsExcess valued stressed → sum_by unsigned_abs (excess_dues valued.asof stressed valued.payments) ≤ 100_000_000_000_000
flows-small valued stressed fits =
    omega (
      arith,
      apart-small (due_in valued.asof stressed) (due_in valued.asof valued.payments) 1 100,
      dues-within valued.asof stressed,
      dues-within valued.asof valued.payments,
      fits.base.small,
      fits.stressed_flows.small,
    )

-- a place that has a name has a curve
pub curve-there : (found : Option Curve) (currency : List ℕ) → option_map curve_name found ≡ Some currency → (curve : Curve) × (found ≡ Some curve)
curve-there None currency named = absurd (cc)
curve-there (Some curve) currency named = (curve, refl)

pub excess-worked : (sheet : BalanceSheet) (currency : List ℕ) (stressed base : List (Day × ℤ)) (rows : List CurrencyDiscounts) (row : CurrencyDiscounts) (rates flows : List ℤ) (table : List Ends) (e : Ends)
    → IsRowAt currency sheet.curves rows row rates → row.base ≡ table → flows ≡ excess_dues sheet.numbers.asof.number stressed base → e ≡ max_ends (present_ends flows table) (exact_ends (pos 0))
    → e ≡ excess_ends (valued_in sheet currency base) stressed (row_in currency sheet.curves rows)
unfolding excess_ends
excess-worked sheet currency stressed base rows row rates flows table e found base_is flows_are is = rw (found.own, base_is, sym flows_are) is
