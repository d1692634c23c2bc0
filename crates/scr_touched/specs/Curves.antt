-- Which figures an exchanged curve touches (this project's own).
use Rattle.std.specs.Prelude.{ℕ, ◌==◌, ◌&&◌, ◌++◌, Bool, true, false, List, [], ◌∷◌, Option, is_some, if◌then◌else◌}
use Rattle.std.specs.Bool.{beq}
use Rattle.std.specs.Option.{option_map_or}
use Rattle.scr_tables.specs.Names.{same_name}
use Rattle.scr_sheet.specs.BalanceSheet.{position_of}
use Rattle.scr_sheet.specs.declared.keys.Projection.{Projection}
use Rattle.scr_sheet.specs.declared.rows.Curve.{Curve}
use Rattle.scr_sheet.specs.declared.rows.Liability.{Liability}
use Rattle.scr_sheet.specs.declared.rows.Position.{Position}
use Rattle.scr_sheet.specs.declared.sheet.BalanceSheet.{BalanceSheet}
use Rattle.scr_nodes.specs.OwnOf.{absorbed_by}
use Rattle.scr_nodes.specs.Rows.{is_foreign, is_paying, liability_of}
use Rattle.scr_nodes.specs.declared.node.Direction.{Direction}
use Rattle.scr_nodes.specs.declared.node.Direction.TheVariants as directions
use Rattle.scr_nodes.specs.declared.node.Measure.TheVariants as measures
use Rattle.scr_nodes.specs.declared.node.Node.{Node}
use Rattle.scr_nodes.specs.declared.node.Node.TheVariants as nodes
use Rattle.scr_nodes.specs.declared.node.OfSecurity.TheVariants as of_securities
use Rattle.scr_nodes.specs.declared.node.OfLiability.TheVariants as of_liabilities
use Rattle.scr_nodes.specs.declared.node.OfCurrency.TheVariants as of_currencies
use Rattle.scr_nodes.specs.declared.node.Whole.TheVariants as wholes
use Rattle.scr_row_change.specs.Comparisons.{passes, is_kept, same_rates}
use Rattle.scr_row_change.specs.Readings.{keeps_liability, keeps_security, rates_by}
use Rattle.scr_touched.specs.Comparisons.{is_touched}
use Rattle.scr_touched.specs.Liabilities.{is_under}
use Rattle.scr_touched.specs.Payments.{payment_figures}

-- ---- what is read of a curve, if there is one

-- the absorption of a change of the currency
abbrev pub absorption_by : Direction → Option Curve → ℕ
absorption_by direction curve = option_map_or (absorbed_by direction) curve 0

-- ---- figures of payments, by whether the rates of their currency stay

abbrev pub unit_moved : List ℕ → Option Curve → Option Curve → Option Position → Bool
unit_moved name old new position =
    let pays = passes is_paying position in
    is_touched pays pays (keeps_security name old new position) true

abbrev pub value_moved : List ℕ → Option Curve → Option Curve → Option Liability → Bool
value_moved name old new liability =
    let has = is_some liability in
    is_touched has has (keeps_liability name old new liability) true

abbrev pub loss_moved : List ℕ → Option Curve → Option Curve → Projection → Option Liability → Bool
loss_moved name old new projection liability =
    let under = is_under projection liability in
    is_touched under under (keeps_liability name old new liability) true

-- ---- figures of the currency

abbrev pub currency_touched : Option Curve → Option Curve → Bool
currency_touched old new = is_touched (is_some old) (is_some new) true true

abbrev pub foreign_touched : BalanceSheet → Option Curve → Option Curve → Bool
foreign_touched sheet old new = is_touched (passes (is_foreign sheet) old) (passes (is_foreign sheet) new) true true

-- with what is absorbed of it
abbrev pub net_touched : BalanceSheet → Direction → Option Curve → Option Curve → Bool
net_touched sheet direction old new =
    is_touched (passes (is_foreign sheet) old) (passes (is_foreign sheet) new)
    (absorption_by direction old == absorption_by direction new) true

-- ---- all families

-- the curve of this name becomes another, or comes or goes
abbrev pub curve_touches : BalanceSheet → List ℕ → Option Curve → Option Curve → Node → Bool
curve_touches sheet name old new (nodes.Security x (of_securities.UnitLoss direction)) =
    unit_moved name old new (position_of x sheet.securities)
curve_touches sheet name old new (nodes.Liability x (of_liabilities.Rate direction)) =
    value_moved name old new (liability_of x sheet.liabilities)
curve_touches sheet name old new (nodes.Liability x of_liabilities.Present) =
    value_moved name old new (liability_of x sheet.liabilities)
curve_touches sheet name old new (nodes.Liability x (of_liabilities.Loss projection)) =
    loss_moved name old new projection (liability_of x sheet.liabilities)
curve_touches sheet name old new (nodes.Currency x (of_currencies.Loss direction)) = same_name x name && currency_touched old new
curve_touches sheet name old new (nodes.Whole (wholes.InterestScenario direction measures.Gross)) =
    is_touched true true true (beq (is_some old) (is_some new))
curve_touches sheet name old new (nodes.Currency x (of_currencies.Scenario direction measures.Gross)) =
    same_name x name && foreign_touched sheet old new
curve_touches sheet name old new (nodes.Currency x (of_currencies.Scenario direction measures.Net)) =
    same_name x name && net_touched sheet direction old new
curve_touches sheet name old new (nodes.Currency x of_currencies.Choice) = same_name x name && foreign_touched sheet old new
curve_touches sheet name old new (nodes.Currency x (of_currencies.Picked measure)) = same_name x name && foreign_touched sheet old new
curve_touches sheet name old new (nodes.Whole (wholes.Currency measure)) =
    is_touched true true true (is_kept (is_foreign sheet) old new)
curve_touches sheet name old new node = false

-- ---- what may be touched

-- the figures of the currency as a foreign one
abbrev pub foreign_nodes : List ℕ → List Node
foreign_nodes name =
    nodes.Currency name (of_currencies.Scenario directions.Up measures.Gross) ∷ nodes.Currency name (of_currencies.Scenario directions.Up measures.Net)
    ∷ nodes.Currency name (of_currencies.Scenario directions.Down measures.Gross)
    ∷ nodes.Currency name (of_currencies.Scenario directions.Down measures.Net)
    ∷ nodes.Currency name of_currencies.Choice ∷ nodes.Currency name (of_currencies.Picked measures.Gross) ∷ nodes.Currency name (of_currencies.Picked measures.Net)
    ∷ []

abbrev pub currency_nodes : List ℕ → List Node
currency_nodes name =
    nodes.Currency name (of_currencies.Loss directions.Up) ∷ nodes.Currency name (of_currencies.Loss directions.Down)
    ∷ nodes.Whole (wholes.InterestScenario directions.Up measures.Gross) ∷ nodes.Whole (wholes.InterestScenario directions.Down measures.Gross)
    ∷ nodes.Whole (wholes.Currency measures.Gross) ∷ nodes.Whole (wholes.Currency measures.Net) ∷ foreign_nodes name

-- the figures of payments, unless the rates stay
abbrev pub moved_nodes : BalanceSheet → Bool → List Node
moved_nodes sheet same = if same then [] else payment_figures sheet

abbrev pub curve_nodes : BalanceSheet → List ℕ → Option Curve → Option Curve → List Node
curve_nodes sheet name old new = moved_nodes sheet (same_rates (rates_by old) (rates_by new)) ++ currency_nodes name
