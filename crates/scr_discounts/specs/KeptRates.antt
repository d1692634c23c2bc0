-- All that is kept of rates: the falls of discounts of each currency, and the reference date whose anniversaries are known
-- (own).
use Rattle.std.specs.Prelude.{ℕ, ◌≡◌, false, ℤ, List, [], ◌∷◌, Some, slice_get}
use Rattle.scr_yield_curve.specs.Parts.{rates_in_parts}
use Rattle.scr_yield_curve.specs.declared.tilt.Tilt.TheVariants as tilts
use Rattle.scr_yield_curve.specs.Falls.{differences}
use Rattle.scr_tables.specs.Names.{same_name}
use Rattle.scr_sheet.specs.declared.rows.Curve.{Curve}
use Rattle.scr_sheet.specs.declared.sheet.BalanceSheet.{BalanceSheet}
use Rattle.scr_discounts.specs.Discounts.{CurrencyDiscounts, discounts_at}
use Rattle.scr_discounts.specs.Kept.{rows_of, all_discounts}
use Rattle.scr_discounts.specs.declared.known.CurrencyFalls.{CurrencyFalls}
use Rattle.scr_discounts.specs.declared.known.Rates.{Rates}

-- by how much discounts at these rates fall where the rates rise and where they fall (Articles 166 and 167 of Delegated
-- Regulation (EU) 2015/35)
abbrev pub falls_at : List ℤ → CurrencyDiscounts → CurrencyFalls
falls_at rates row = record {
  up = differences (rates_in_parts rates tilts.Base) row.base (rates_in_parts rates tilts.Up) row.up;
  down = differences (rates_in_parts rates tilts.Base) row.base (rates_in_parts rates tilts.Down) row.down;
}

-- The falls of discounts of all currencies under both stresses, in the order of the curves (own).
abbrev pub falls_of : List Curve → List CurrencyDiscounts → List CurrencyFalls
falls_of [] rows = []
falls_of (curve ∷ curves) [] = []
falls_of (curve ∷ curves) (row ∷ rows) = falls_at curve.rates row ∷ falls_of curves rows

-- The kept rates belong to this balance sheet and these discounts: its reference date, and the falls at its curves (own).
pub record AreRatesOf (sheet : BalanceSheet) (rows : List CurrencyDiscounts) (rates : Rates) : Type 0 where
  pub asof : rates.years ≡ sheet.numbers.asof.number
  pub falls : rates.falls.items ≡ falls_of sheet.curves rows

-- Row `k` has the discounts worked out at the rates of curve `k`, from 0, for every curve except that of `currency` (own).
abbrev pub AreKeptBut : List ℕ → List Curve → List CurrencyDiscounts → Type 0
AreKeptBut currency curves rows = (k : ℕ) (curve : Curve) → slice_get curves k ≡ Some curve
    → same_name currency curve.currency ≡ false → slice_get rows k ≡ Some (discounts_at curve.rates)

-- ---- all that is known of rates: the discounts of all currencies, the reference date and the falls
pub record KnownRates : Type 0 where
  pub rows : List CurrencyDiscounts
  pub asof : ℤ
  pub falls : List CurrencyFalls

-- The kept rates as a plain value: discounts, reference date and falls (own).
abbrev pub known_of : Rates → KnownRates
known_of rates = record { rows = rows_of rates.curves; asof = rates.years; falls = rates.falls.items }

-- Discounts, reference date and falls of a balance sheet, as worked out from its curves (own).
abbrev pub all_rates : BalanceSheet → KnownRates
all_rates sheet = record {
  rows = all_discounts sheet;
  asof = sheet.numbers.asof.number;
  falls = falls_of sheet.curves (all_discounts sheet);
}
