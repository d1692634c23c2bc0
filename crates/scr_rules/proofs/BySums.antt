-- The rules that see the figures of their sources by a sum, or by two.
use Rattle.std.proofs.Common.{◌≡◌, ℕ, ◌^◌, ◌+◌, pos, true, List, [], ◌∷◌, ◌++◌, length, unsigned_abs, refl, sym, ap, ap₂, subst, ◌∙◌, arith}
use Rattle.std.proofs.lemmas.List.{take_at, drop_at}
use Rattle.std.proofs.lemmas.List.Sums.{sum_by-append, sum_by-cons}
use Rattle.scr_discounts.specs.Discounts.{CurrencyDiscounts}
use Rattle.scr_num.specs.Amounts.{IsAmount}
use Rattle.scr_num.specs.Rounding.{Ends, add_ends, exact_ends, max_ends, scale_ends}
use Rattle.scr_num.specs.Sizes.{AreTogether, IsWithin}
use Rattle.scr_num.specs.Sums.{sum_ends}
use Rattle.scr_num.proofs.AddedEnds.{zero-add_ends}
use Rattle.scr_num.proofs.SumLemmas.{add_ends-swap, sum_ends-append, sum_ends-low_size, sum_ends-high_size}
use Rattle.scr_conc.specs.ConcentrationEnds.{concentration_ends}
use Rattle.scr_conc.specs.declared.TheConstants.{MAX_SQUARES}
use Rattle.scr_market.specs.SpreadEnds.{spread_ends}
use Rattle.scr_profile.specs.declared.limits.TheConstants.{MAX_HELD}
use Rattle.scr_nodes.specs.declared.node.Direction.{Direction}
use Rattle.scr_nodes.specs.Own.{Own}
use Rattle.scr_nodes.specs.Own.Own.{Lost, Converted, Added, Foreign, Spread, SquareRoot}
use Rattle.scr_rules.specs.BySums.{is_of_sum}
use Rattle.scr_rules.specs.Fits.{Fits}
use Rattle.scr_rules.specs.MarketFits.{FitsForeign}
use Rattle.scr_rules.specs.MarketRules.{foreign_ends}
use Rattle.scr_rules.specs.Rules.{amount_of, rule}

pub rule-by-sum : (own : Own) (discounts : CurrencyDiscounts) (figures others : List Ends) → is_of_sum own ≡ true
    → sum_ends figures ≡ sum_ends others → rule own discounts figures ≡ rule own discounts others
rule-by-sum Lost discounts figures others is same = ap (max_ends (exact_ends (pos 0))) same
rule-by-sum Converted discounts figures others is same = ap (λ sum. scale_ends sum 1 1_000_000_000_000_000) same
rule-by-sum Added discounts figures others is same = same
rule-by-sum Spread discounts figures others is same = ap spread_ends same
rule-by-sum SquareRoot discounts figures others is same = ap (λ sum. concentration_ends (amount_of sum)) same
rule-by-sum own discounts figures others is same = absurd (cc)

pub rule-by-two-sums : (direction : Direction) (discounts : CurrencyDiscounts) (held owed : List Ends)
    → rule (Foreign direction (length held)) discounts (held ++ owed) ≡ foreign_ends direction (amount_of (sum_ends held)) (sum_ends owed)
rule-by-two-sums direction discounts held owed =
    ap₂ (λ first other. foreign_ends direction (amount_of (sum_ends first)) (sum_ends other))
    (take_at held owed (length held) refl) (drop_at held owed (length held) refl)

-- ---- sizes

sum-of-two : (a b : Ends) → sum_ends (a ∷ b ∷ []) ≡ add_ends a b
sum-of-two a b = ap (add_ends a) (add_ends-swap b (exact_ends (pos 0)) ∙ zero-add_ends b)

-- how far the ends are from 0
abbrev low : Ends → ℕ
low e = unsigned_abs e.low

abbrev high : Ends → ℕ
high e = unsigned_abs e.high

together-by-sums : (most : ℕ) (xs ys : List Ends) → AreTogether most (xs ++ ys) → AreTogether most (sum_ends xs ∷ sum_ends ys ∷ [])
together-by-sums most xs ys small = record {
  lows = omega (
    arith,
    small.lows,
    sum_by-append low xs ys,
    sum_ends-low_size xs,
    sum_ends-low_size ys,
    sum_by-cons low (sum_ends xs) (sum_ends ys ∷ []),
    sum_by-cons low (sum_ends ys) [],
  );
  highs = omega (
    arith,
    small.highs,
    sum_by-append high xs ys,
    sum_ends-high_size xs,
    sum_ends-high_size ys,
    sum_by-cons high (sum_ends xs) (sum_ends ys ∷ []),
    sum_by-cons high (sum_ends ys) [],
  );
}

pub fits-by-sums : (own : Own) (xs ys : List Ends) → is_of_sum own ≡ true → Fits own (xs ++ ys)
    → Fits own (sum_ends xs ∷ sum_ends ys ∷ [])
fits-by-sums Lost xs ys is fits = together-by-sums (10 ^ 33) xs ys fits
fits-by-sums Converted xs ys is fits = together-by-sums (10 ^ 33) xs ys fits
fits-by-sums Added xs ys is fits = together-by-sums (10 ^ 33) xs ys fits
fits-by-sums Spread xs ys is fits = together-by-sums (10 ^ 33) xs ys fits
fits-by-sums SquareRoot xs ys is fits = record {
  together = together-by-sums MAX_SQUARES xs ys fits.together;
  sum = subst (IsAmount MAX_SQUARES) (sum_ends-append xs ys ∙ sym (sum-of-two (sum_ends xs) (sum_ends ys))) fits.sum;
}
fits-by-sums own xs ys is fits = absurd (cc)

pub fits-by-two-sums : (held owed : List Ends) → FitsForeign (length held) (held ++ owed)
    → IsAmount MAX_HELD (sum_ends held) × IsWithin (10 ^ 33) (sum_ends owed)
fits-by-two-sums held owed fits = (
  subst (λ list. IsAmount MAX_HELD (sum_ends list)) (take_at held owed (length held) refl) fits.assets,
  record {
    low = omega (arith, small.lows, sum_ends-low_size owed);
    high = omega (arith, small.highs, sum_ends-high_size owed);
  },
)
  where
    small : AreTogether (10 ^ 33) owed
    small = subst (AreTogether (10 ^ 33)) (drop_at held owed (length held) refl) fits.owed
