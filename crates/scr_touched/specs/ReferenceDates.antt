-- Which figures another reference date, or another reporting currency, touches (this project's own).
use Rattle.std.specs.Prelude.{ℕ, ◌++◌, not, Bool, true, false, List, [], ◌∷◌}
use Rattle.std.specs.Option.{option_map_or}
use Rattle.std.specs.Ordering.{int_eq}
use Rattle.scr_dates.specs.declared.day.Day.{Day}
use Rattle.scr_tables.specs.Names.{same_name}
use Rattle.scr_tables.specs.Tables.{has_row, row_of}
use Rattle.scr_sheet.specs.BalanceSheet.{curve_name, liability_name}
use Rattle.scr_sheet.specs.declared.rows.Curve.{Curve}
use Rattle.scr_sheet.specs.declared.sheet.BalanceSheet.{BalanceSheet}
use Rattle.scr_nodes.specs.Live.{is_foreign_currency, is_stressed_liability, pays}
use Rattle.scr_nodes.specs.declared.node.Measure.TheVariants as measures
use Rattle.scr_nodes.specs.declared.node.Node.{Node}
use Rattle.scr_nodes.specs.declared.node.Node.TheVariants as nodes
use Rattle.scr_nodes.specs.declared.node.OfSecurity.TheVariants as of_securities
use Rattle.scr_nodes.specs.declared.node.OfLiability.TheVariants as of_liabilities
use Rattle.scr_nodes.specs.declared.node.OfCurrency.TheVariants as of_currencies
use Rattle.scr_nodes.specs.declared.node.Whole.TheVariants as wholes
use Rattle.scr_touched.specs.Comparisons.{is_touched}
use Rattle.scr_touched.specs.Curves.{foreign_nodes, moved_nodes}

abbrev pub same_date : BalanceSheet → Day → Bool
same_date sheet date = int_eq sheet.numbers.asof.number date.number

-- a currency with a curve, other than the one in which is reported
abbrev pub is_foreign_to : BalanceSheet → List ℕ → List ℕ → Bool
is_foreign_to sheet reporting currency =
    option_map_or (λ (c : Curve). not (same_name reporting c.currency)) (row_of curve_name currency sheet.curves) false

-- a figure of payments
abbrev pub dated_touched : BalanceSheet → Day → Bool → Bool
dated_touched sheet date live = is_touched live live (same_date sheet date) true

-- a figure of a foreign currency
abbrev pub reporting_touched : BalanceSheet → List ℕ → List ℕ → Bool
reporting_touched sheet reporting currency =
    is_touched (is_foreign_currency sheet currency) (is_foreign_to sheet reporting currency) true true

abbrev pub date_touches : BalanceSheet → Day → List ℕ → Node → Bool
date_touches sheet date currency (nodes.Security x (of_securities.UnitLoss direction)) = dated_touched sheet date (pays sheet x)
date_touches sheet date currency (nodes.Liability x (of_liabilities.Rate direction)) =
    dated_touched sheet date (has_row liability_name x sheet.liabilities)
date_touches sheet date currency (nodes.Liability x of_liabilities.Present) =
    dated_touched sheet date (has_row liability_name x sheet.liabilities)
date_touches sheet date currency (nodes.Liability x (of_liabilities.Loss projection)) =
    dated_touched sheet date (is_stressed_liability sheet x projection)
date_touches sheet date currency (nodes.Currency x (of_currencies.Scenario direction measure)) = reporting_touched sheet currency x
date_touches sheet date currency (nodes.Currency x of_currencies.Choice) = reporting_touched sheet currency x
date_touches sheet date currency (nodes.Currency x (of_currencies.Picked measure)) = reporting_touched sheet currency x
date_touches sheet date currency (nodes.Whole (wholes.Currency measure)) =
    is_touched true true true (same_name sheet.numbers.currency currency)
date_touches sheet date currency node = false

-- ---- what may be touched

-- the figures of payments, unless the date stays, and those of the reporting currency before and after
abbrev pub date_nodes : BalanceSheet → Day → List Node
date_nodes sheet date = moved_nodes sheet (same_date sheet date) ++ foreign_nodes sheet.numbers.currency

abbrev pub reporting_nodes : List ℕ → List Node
reporting_nodes currency = foreign_nodes currency ++ nodes.Whole (wholes.Currency measures.Gross) ∷ nodes.Whole (wholes.Currency measures.Net) ∷ []

-- it is a figure of the currency as a foreign one
abbrev pub is_of_currency : List ℕ → Node → Bool
is_of_currency currency (nodes.Currency x (of_currencies.Scenario direction measure)) = same_name x currency
is_of_currency currency (nodes.Currency x of_currencies.Choice) = same_name x currency
is_of_currency currency (nodes.Currency x (of_currencies.Picked measure)) = same_name x currency
is_of_currency currency node = false
