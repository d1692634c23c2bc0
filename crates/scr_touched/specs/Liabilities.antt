-- Which figures an exchanged liability touches (this project's own).
use Rattle.std.specs.Prelude.{ℕ, ℤ, ◌&&◌, ◌++◌, Bool, true, false, List, [], ◌∷◌, Option, Some, None, is_some, map}
use Rattle.std.specs.Option.{option_map_or}
use Rattle.scr_tables.specs.Names.{same_name}
use Rattle.scr_tables.specs.Tables.{has_row}
use Rattle.scr_sheet.specs.BalanceSheet.{curve_name}
use Rattle.scr_sheet.specs.declared.keys.Projection.{Projection}
use Rattle.scr_sheet.specs.declared.rows.Liability.{Liability}
use Rattle.scr_sheet.specs.declared.sheet.BalanceSheet.{BalanceSheet}
use Rattle.scr_nodes.specs.Live.{is_foreign_currency}
use Rattle.scr_nodes.specs.Rows.{has_flows, has_stress, is_owed_in, is_stress, is_stressed, rates_of}
use Rattle.scr_nodes.specs.declared.node.Biometric.{Biometric}
use Rattle.scr_nodes.specs.declared.node.Biometric.TheVariants as biometrics
use Rattle.scr_nodes.specs.declared.node.Direction.TheVariants as directions
use Rattle.scr_nodes.specs.declared.node.Measure.TheVariants as measures
use Rattle.scr_nodes.specs.declared.node.Node.{Node}
use Rattle.scr_nodes.specs.declared.node.Node.TheVariants as nodes
use Rattle.scr_nodes.specs.declared.node.OfLiability.TheVariants as of_liabilities
use Rattle.scr_nodes.specs.declared.node.OfCurrency.TheVariants as of_currencies
use Rattle.scr_nodes.specs.declared.node.Whole.TheVariants as wholes
use Rattle.scr_row_change.specs.Comparisons.{passes, is_kept, same_payments, same_rates}
use Rattle.scr_row_change.specs.Readings.{best_estimate_of, paid_for}
use Rattle.scr_touched.specs.Comparisons.{is_touched}
use Rattle.scr_touched.specs.Payments.{loss_figures, stresses, value_figures}

-- ---- what is read of a liability, if there is one

-- the rates of its currency
abbrev pub rates_for : BalanceSheet → Option Liability → List ℤ
rates_for sheet liability = option_map_or (λ (l : Liability). rates_of l.currency sheet) liability []

-- it has flows under a stress
abbrev pub is_under : Projection → Option Liability → Bool
is_under projection liability = is_stress projection && passes (has_flows projection) liability

-- ---- families of figures of one liability

-- Whether the best estimate has the same payments and is discounted at the same rates before and after (own).
abbrev pub same_value : BalanceSheet → Option Liability → Option Liability → Bool
same_value sheet old new =
    same_payments (best_estimate_of old) (best_estimate_of new)
    && same_rates (rates_for sheet old) (rates_for sheet new)

-- Whether the value of a liability changes: it comes or goes, or its best estimate or the rates of its currency change (own).
abbrev pub value_touched : BalanceSheet → Option Liability → Option Liability → Bool
value_touched sheet old new = is_touched (is_some old) (is_some new) (same_value sheet old new) true

-- Whether the loss under a stress changes: the liability begins or ceases to have flows under it, or its value or stressed
-- payments change (own).
abbrev pub loss_touched : BalanceSheet → Projection → Option Liability → Option Liability → Bool
loss_touched sheet projection old new =
    is_touched (is_under projection old) (is_under projection new)
    (same_value sheet old new && same_payments (paid_for projection old) (paid_for projection new)) true

-- ---- all families

-- the liability of this name becomes another, or comes or goes
abbrev pub liability_touches : BalanceSheet → List ℕ → Option Liability → Option Liability → Node → Bool
liability_touches sheet name old new (nodes.Liability x (of_liabilities.Rate direction)) = same_name x name && value_touched sheet old new
liability_touches sheet name old new (nodes.Liability x of_liabilities.Present) = same_name x name && value_touched sheet old new
liability_touches sheet name old new (nodes.Liability x (of_liabilities.Loss projection)) =
    same_name x name && loss_touched sheet projection old new
liability_touches sheet name old new (nodes.Currency currency (of_currencies.Loss direction)) =
    let has = has_row curve_name currency sheet.curves in
    is_touched has has true (is_kept (is_owed_in currency) old new)
liability_touches sheet name old new (nodes.Currency currency (of_currencies.Scenario direction measures.Gross)) =
    let foreign = is_foreign_currency sheet currency in
    is_touched foreign foreign true (is_kept (is_owed_in currency) old new)
liability_touches sheet name old new (nodes.Whole (wholes.BioScenario biometric projection measures.Gross)) =
    let has = has_stress biometric projection in
    is_touched has has true (is_kept (is_stressed biometric projection) old new)
liability_touches sheet name old new node = false

-- ---- what may be touched

-- the requirements for the stresses of a kind of obligations
abbrev pub stress_nodes : Biometric → List Node
stress_nodes biometric = map (λ projection. nodes.Whole (wholes.BioScenario biometric projection measures.Gross)) stresses

-- the figures of its currency
abbrev pub owed_nodes : Option Liability → List Node
owed_nodes None = []
owed_nodes (Some liability) =
    nodes.Currency liability.currency (of_currencies.Loss directions.Up) ∷ nodes.Currency liability.currency (of_currencies.Loss directions.Down)
    ∷ nodes.Currency liability.currency (of_currencies.Scenario directions.Up measures.Gross)
    ∷ nodes.Currency liability.currency (of_currencies.Scenario directions.Down measures.Gross) ∷ []

-- The figures that a change of the liability `name` may touch, with its currency as in `old` (own).
abbrev pub liability_nodes : List ℕ → Option Liability → List Node
liability_nodes name old =
    value_figures name ++ (loss_figures name ++ (stress_nodes biometrics.Life ++ (stress_nodes biometrics.Health
    ++ owed_nodes old)))

-- it is a figure of the currency of the liability
abbrev pub is_of_liability : Option Liability → Node → Bool
is_of_liability row (nodes.Currency currency (of_currencies.Loss direction)) = passes (is_owed_in currency) row
is_of_liability row (nodes.Currency currency (of_currencies.Scenario direction measures.Gross)) = passes (is_owed_in currency) row
is_of_liability row node = false
