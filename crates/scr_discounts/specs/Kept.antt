-- Discounts that are kept for each currency (own).
use Rattle.std.specs.Prelude.{ℕ, ◌≡◌, ℤ, All, List, [], ◌∷◌, length, map, if◌then◌else◌}
use Rattle.scr_num.specs.Fraction.{Fraction}
use Rattle.scr_num.specs.Rounding.{Ends, ends}
use Rattle.scr_yield_curve.specs.DiscountEnds.{IsDiscount, EncloseDiscounts}
use Rattle.scr_yield_curve.specs.Rate.{rate}
use Rattle.scr_yield_curve.specs.declared.table.Discounts.{Discounts}
use Rattle.scr_yield_curve.specs.declared.tilt.Tilt.TheVariants as tilts
use Rattle.scr_tables.specs.Names.{same_name}
use Rattle.scr_sheet.specs.declared.rows.Curve.{Curve}
use Rattle.scr_sheet.specs.declared.sheet.BalanceSheet.{BalanceSheet}
use Rattle.scr_discounts.specs.Discounts.{CurrencyDiscounts, discounts_at, no_discounts}

-- Reads one row of the cache: its first three tables are the discounts as rates are, after a rise and after a fall. A shorter
-- row has no discounts (own).
abbrev pub tables : List Discounts → CurrencyDiscounts
tables (base ∷ up ∷ down ∷ others) = record { base = map ends base.at; up = map ends up.at; down = map ends down.at }
tables others = no_discounts

-- The discounts of each currency, read from all rows of the cache in their order (own).
abbrev pub rows_of : List (List Discounts) → List CurrencyDiscounts
rows_of rows = map tables rows

-- Discounts at the rates of all curves of a balance sheet, one row a currency in the order of the curves (own).
abbrev pub all_discounts : BalanceSheet → List CurrencyDiscounts
all_discounts sheet = map (λ (curve : Curve). discounts_at curve.rates) sheet.curves

-- A table by which payments may be discounted at the rates `worth`: 100 discounts, after 1 to 100 years, each in range,
-- which enclose the exact ones. Who worked the table out does not matter (own).
pub record IsTable (worth : ℕ → Fraction) (table : List Ends) : Type 0 where
  pub count : length table ≡ 100
  pub in_range : All IsDiscount table
  pub encloses : EncloseDiscounts worth table

-- The row of a currency has a valid table at its rates as they are, after a rise and after a fall (own).
pub record AreDiscountsAt (rates : List ℤ) (row : CurrencyDiscounts) : Type 0 where
  pub base : IsTable (rate rates tilts.Base) row.base
  pub up : IsTable (rate rates tilts.Up) row.up
  pub down : IsTable (rate rates tilts.Down) row.down

-- Curves and rows of discounts correspond: as many rows as curves, each row valid at the rates of its curve (own).
abbrev pub AreDiscountsOf : List Curve → List CurrencyDiscounts → Type 0
AreDiscountsOf [] [] = Unit {0}
AreDiscountsOf (curve ∷ curves) (row ∷ rows) = AreDiscountsAt curve.rates row × AreDiscountsOf curves rows
AreDiscountsOf [] (row ∷ rows) = ⊥
AreDiscountsOf (curve ∷ curves) [] = ⊥

-- The row of discounts of `currency`, at the position of its curve; empty tables if it has no curve or no row (own).
abbrev pub row_in : List ℕ → List Curve → List CurrencyDiscounts → CurrencyDiscounts
row_in currency [] rows = no_discounts
row_in currency (curve ∷ curves) [] = no_discounts
row_in currency (curve ∷ curves) (row ∷ rows) = if same_name currency curve.currency then row else row_in currency curves rows
