-- Discounts of a currency at its rates as they are and under each stress of its rates (own).
use Rattle.std.specs.Prelude.{ℤ, List, []}
use Rattle.scr_num.specs.Rounding.{Ends}
use Rattle.scr_yield_curve.specs.DiscountEnds.{table_ends}
use Rattle.scr_yield_curve.specs.Parts.{rates_in_parts}
use Rattle.scr_yield_curve.specs.declared.tilt.Tilt.TheVariants as tilts

-- Discounts of one currency after 1, 2, 3 and up to 100 years, in 10^-18: at the rates as they are, after a rise and after a
-- fall (own).
pub record CurrencyDiscounts : Type 0 where
  pub base : List Ends
  pub up : List Ends
  pub down : List Ends

-- The three tables of discounts at the rates of one curve, given in millionths (own).
unfoldable pub discounts_at : List ℤ → CurrencyDiscounts
discounts_at rates = record {
  base = table_ends (rates_in_parts rates tilts.Base);
  up = table_ends (rates_in_parts rates tilts.Up);
  down = table_ends (rates_in_parts rates tilts.Down);
}

-- Three empty tables: the discounts of a currency without a curve (own).
abbrev pub no_discounts : CurrencyDiscounts
no_discounts = record { base = []; up = []; down = [] }
