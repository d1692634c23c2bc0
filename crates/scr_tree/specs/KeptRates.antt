-- Which records leave the reference date and the rates of all currencies as they are, and which rates a record leaves (this
-- project's own).
use Rattle.std.specs.Prelude.{Bool, true, false}
use Rattle.scr_sheet.specs.declared.edit.Edit.{Edit}
use Rattle.scr_sheet.specs.declared.edit.Edit.TheVariants as edits
use Rattle.scr_sheet.specs.declared.keys.Table.TheVariants as tables
use Rattle.scr_sheet.specs.declared.sheet.BalanceSheet.{BalanceSheet}
use Rattle.scr_discounts.specs.Kept.{rows_of}
use Rattle.scr_discounts.specs.KeptRates.{AreKeptBut}
use Rattle.scr_discounts.specs.declared.known.Rates.{Rates}

-- all but that of the reference date and those that make, replace or drop a curve
abbrev pub keeps_rates : Edit → Bool
keeps_rates (edits.Asof date currency) = false
keeps_rates (edits.Curve currency rates) = false
keeps_rates (edits.Remove tables.Curve currency) = false
keeps_rates edit = true

-- the kept discounts of the currencies whose curves a record leaves are those at their rates
abbrev pub AreKeptFor : Edit → BalanceSheet → Rates → Type 0
AreKeptFor (edits.Curve currency rates) sheet kept = AreKeptBut currency sheet.curves (rows_of kept.curves)
AreKeptFor edit sheet kept = Unit {0}
