-- Which figures an exchanged security touches (this project's own).
use Rattle.std.specs.Prelude.{ℕ, ℤ, ◌==◌, ◌&&◌, ◌++◌, Bool, true, false, List, [], ◌∷◌, Option, Some, None, nat_eq, is_some}
use Rattle.std.specs.Option.{option_eq, option_map_or}
use Rattle.scr_tables.specs.Names.{same_name}
use Rattle.scr_tables.specs.Tables.{has_row}
use Rattle.scr_sheet.specs.BalanceSheet.{curve_name}
use Rattle.scr_sheet.specs.declared.rows.Class.TheVariants as classes
use Rattle.scr_sheet.specs.declared.rows.Position.{Position}
use Rattle.scr_sheet.specs.declared.sheet.BalanceSheet.{BalanceSheet}
use Rattle.scr_nodes.specs.Live.{is_foreign_currency, is_group}
use Rattle.scr_nodes.specs.Rows.{has_class, has_group, is_held_in, is_of_group, is_paying, is_paying_in, rates_of, step_of}
use Rattle.scr_nodes.specs.declared.node.Direction.TheVariants as directions
use Rattle.scr_nodes.specs.declared.node.Measure.TheVariants as measures
use Rattle.scr_nodes.specs.declared.node.Node.{Node}
use Rattle.scr_nodes.specs.declared.node.Node.TheVariants as nodes
use Rattle.scr_nodes.specs.declared.node.OfSecurity.TheVariants as of_securities
use Rattle.scr_nodes.specs.declared.node.OfCurrency.TheVariants as of_currencies
use Rattle.scr_nodes.specs.declared.node.OfGroup.TheVariants as of_groups
use Rattle.scr_nodes.specs.declared.node.Whole.TheVariants as wholes
use Rattle.scr_row_change.specs.Comparisons.{passes, is_kept, same_payments, same_rates}
use Rattle.scr_row_change.specs.Readings.{duration_of, flows_of, position_held}
use Rattle.scr_touched.specs.Comparisons.{is_touched}

-- ---- what is read of a security, if there is one

-- the rates of its currency
abbrev pub rates_for : BalanceSheet → Option Position → List ℤ
rates_for sheet position = option_map_or (λ (p : Position). rates_of p.security.currency sheet) position []

-- the credit quality step of its group
abbrev pub step_for : BalanceSheet → Option Position → Option ℕ
step_for sheet position = option_map_or (step_of sheet) position None

-- ---- families of figures of one security

-- Whether the total of a security changes: it comes or goes, or the amount held changes (own).
abbrev pub total_touched : Option Position → Option Position → Bool
total_touched old new = is_touched (is_some old) (is_some new) (position_held old == position_held new) true

-- Whether the loss a unit changes: the security begins or ceases to pay, or its payments or the rates of its currency change
-- (own).
abbrev pub unit_touched : BalanceSheet → Option Position → Option Position → Bool
unit_touched sheet old new =
    is_touched (passes is_paying old) (passes is_paying new)
    (same_payments (flows_of old) (flows_of new) && same_rates (rates_for sheet old) (rates_for sheet new)) true

-- Whether the security begins or ceases to have a figure of rate risk, which only a paying one has (own).
abbrev pub rate_touched : Option Position → Option Position → Bool
rate_touched old new = is_touched (passes is_paying old) (passes is_paying new) true true

-- Whether the spread figure changes: the bond comes or goes, or its credit quality step or duration changes (own).
abbrev pub spread_touched : BalanceSheet → Option Position → Option Position → Bool
spread_touched sheet old new =
    is_touched (passes (has_class classes.Bond) old) (passes (has_class classes.Bond) new)
    (option_eq nat_eq (step_for sheet old) (step_for sheet new) && (duration_of old == duration_of new)) true

-- ---- all families

-- the security of this name becomes another, or comes or goes
abbrev pub security_touches : BalanceSheet → List ℕ → Option Position → Option Position → Node → Bool
security_touches sheet name old new (nodes.Security x of_securities.Total) = same_name x name && total_touched old new
security_touches sheet name old new (nodes.Security x (of_securities.UnitLoss direction)) = same_name x name && unit_touched sheet old new
security_touches sheet name old new (nodes.Security x (of_securities.Rate direction)) = same_name x name && rate_touched old new
security_touches sheet name old new (nodes.Currency currency (of_currencies.Loss direction)) =
    let has = has_row curve_name currency sheet.curves in
    is_touched has has true (is_kept (is_paying_in currency) old new)
security_touches sheet name old new (nodes.Currency currency (of_currencies.Scenario direction measures.Gross)) =
    let foreign = is_foreign_currency sheet currency in
    let kept = is_kept (is_held_in currency) old new in
    is_touched foreign foreign kept kept
security_touches sheet name old new (nodes.Whole (wholes.ClassSum class)) =
    is_touched true true true (is_kept (has_class class) old new)
security_touches sheet name old new (nodes.Security x of_securities.Spread) = same_name x name && spread_touched sheet old new
security_touches sheet name old new (nodes.Whole wholes.Spread) = is_touched true true true (is_kept (has_class classes.Bond) old new)
security_touches sheet name old new (nodes.Group group of_groups.Total) =
    let has = is_group sheet group in
    is_touched has has true (is_kept (is_of_group group) old new)
security_touches sheet name old new (nodes.Whole wholes.Assets) = is_touched true true true (is_kept has_group old new)
security_touches sheet name old new node = false

-- ---- what may be touched

-- the figures of the security itself, and those of which there is one for all
abbrev pub own_nodes : List ℕ → List Node
own_nodes name =
    nodes.Security name of_securities.Total ∷ nodes.Security name (of_securities.UnitLoss directions.Up) ∷ nodes.Security name (of_securities.UnitLoss directions.Down)
    ∷ nodes.Security name (of_securities.Rate directions.Up) ∷ nodes.Security name (of_securities.Rate directions.Down)
    ∷ nodes.Security name of_securities.Spread ∷ nodes.Whole wholes.Spread ∷ nodes.Whole wholes.Assets ∷ []

-- The total of the group of a security, as a list of nodes; none without a group (own).
abbrev pub group_nodes : Option (List ℕ) → List Node
group_nodes None = []
group_nodes (Some group) = nodes.Group group of_groups.Total ∷ []

-- the figures of its currency, its class and its group
abbrev pub row_nodes : Option Position → List Node
row_nodes None = []
row_nodes (Some position) =
    nodes.Currency position.security.currency (of_currencies.Loss directions.Up)
    ∷ nodes.Currency position.security.currency (of_currencies.Loss directions.Down)
    ∷ nodes.Currency position.security.currency (of_currencies.Scenario directions.Up measures.Gross)
    ∷ nodes.Currency position.security.currency (of_currencies.Scenario directions.Down measures.Gross)
    ∷ nodes.Whole (wholes.ClassSum position.security.class) ∷ group_nodes position.security.group

-- The figures that a change of the security `name` may touch, with its currency, class and group as in `old` (own).
abbrev pub security_nodes : List ℕ → Option Position → List Node
security_nodes name old = own_nodes name ++ row_nodes old

-- it is a figure of the currency, the class or the group of the security
abbrev pub is_of_position : Option Position → Node → Bool
is_of_position row (nodes.Currency currency (of_currencies.Loss direction)) = passes (is_held_in currency) row
is_of_position row (nodes.Currency currency (of_currencies.Scenario direction measures.Gross)) = passes (is_held_in currency) row
is_of_position row (nodes.Whole (wholes.ClassSum class)) = passes (has_class class) row
is_of_position row (nodes.Group group of_groups.Total) = passes (is_of_group group) row
is_of_position row node = false
