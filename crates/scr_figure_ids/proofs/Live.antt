-- A figure that a balance sheet has is one of a row, and no two rows of a valid sheet have one name.
use Rattle.std.proofs.Common.{◌≡◌, ℕ, ◌+◌, ◌<◌, Bool, true, false, cond, List, [], ◌∷◌, Option, Some, None, map, refl, ap, arith}
use Rattle.std.proofs.lemmas.Bool.{and_parts}
use Rattle.std.specs.List.{IsDistinct, slice_get}
use Rattle.std.specs.Option.{is_some, option_map_or}
use Rattle.scr_tables.specs.Names.{same_name}
use Rattle.scr_tables.specs.Tables.{row_of}
use Rattle.scr_ids.specs.Ranges.{Numbered, first, stride}
use Rattle.scr_ids.specs.declared.table.Table.TheVariants as tables
use Rattle.scr_sheet.specs.BalanceSheet.{curve_name, group_name, liability_name, position_name, stake_name}
use Rattle.scr_sheet.specs.Validity.{Valid}
use Rattle.scr_sheet.specs.declared.{keys.Projection.Projection, sheet.BalanceSheet.BalanceSheet}
use Rattle.scr_sheet.specs.declared.keys.Projection.TheVariants as projections
use Rattle.scr_sheet.specs.declared.rows.Class.TheVariants as classes
use Rattle.scr_sheet.proofs.Holds.{distinct-funds, distinct-left, distinct-right, distinct-securities}
use Rattle.scr_nodes.specs.Live.{is_live, whole_lives}
use Rattle.scr_nodes.specs.Rows.{has_class, has_flows, is_foreign, is_paying, is_stress, liability_of}
use Rattle.scr_nodes.specs.declared.{node.Node.Node, node.OfCurrency.OfCurrency, node.OfGroup.OfGroup, node.OfLiability.OfLiability, node.OfSecurity.OfSecurity, node.Whole.Whole}
use Rattle.scr_nodes.specs.declared.node.Node.TheVariants as nodes
use Rattle.scr_nodes.specs.declared.node.OfCurrency.TheVariants as of_currencies
use Rattle.scr_nodes.specs.declared.node.OfFund.TheVariants as of_funds
use Rattle.scr_nodes.specs.declared.node.OfGroup.TheVariants as of_groups
use Rattle.scr_nodes.specs.declared.node.OfLiability.TheVariants as of_liabilities
use Rattle.scr_nodes.specs.declared.node.OfSecurity.TheVariants as of_securities
use Rattle.scr_nodes.proofs.Numbers.{direction-place-most, measure-place-most, number-most}
use Rattle.scr_figure_ids.specs.Families.{currency_family, family_of, group_family, liability_family, name_of, security_family, stress_place, table_of, whole_family}
use Rattle.scr_figure_ids.specs.Numbers.{AreNamedOnce, IsNumbered, StandsAt, names_in}
use Rattle.scr_figure_ids.proofs.Standing.{found, stands}
use Rattle.scr_figure_ids.proofs.Told.{family-listed}

single : IsDistinct same_name ([] ∷ [])
unfolding IsDistinct
single = (tt, tt)

nobody : IsDistinct same_name []
unfolding IsDistinct
nobody = tt

pub named-once : (sheet : BalanceSheet) → Valid sheet → AreNamedOnce sheet
named-once sheet valid tables.Whole = single
named-once sheet valid tables.Fund = distinct-funds sheet valid.named_once
named-once sheet valid tables.Security = distinct-securities sheet valid.named_once
named-once sheet valid tables.Liability =
    distinct-left (map liability_name sheet.liabilities) _
    (distinct-right (map position_name sheet.securities) _ (distinct-right (map group_name sheet.groups) _ valid.named_once))
named-once sheet valid tables.Group = distinct-left (map group_name sheet.groups) _ valid.named_once
named-once sheet valid tables.Currency = valid.currencies_once
named-once sheet valid tables.Part = nobody

-- ---- no family is beyond the stride

stress-few : (x : Projection) → stress_place x < 9
stress-few projections.Base = omega arith
stress-few x = omega arith

pub security-few : (what : OfSecurity) → security_family what < 6
security-few of_securities.Total = omega arith
security-few what = omega (arith, direction-place-most)

pub currency-few : (what : OfCurrency) → currency_family what < 9
currency-few of_currencies.Choice = omega arith
currency-few what = omega (arith, direction-place-most, measure-place-most)

pub group-few : (what : OfGroup) → group_family what < 3
group-few of_groups.Total = omega arith
group-few what = omega arith

liability-few : (sheet : BalanceSheet) (name : List ℕ) (what : OfLiability) → is_live sheet (nodes.Liability name what) ≡ true
    → liability_family what < 12
liability-few sheet name (of_liabilities.Rate direction) live = omega (arith, direction-place-most)
liability-few sheet name of_liabilities.Present live = omega arith
liability-few sheet name (of_liabilities.Loss projection) live =
    let stress = (and_parts (is_stress projection) (option_map_or (has_flows projection) (liability_of name sheet.liabilities) false) live).0 in
    let is = ap (λ t. cond t (3 + stress_place projection) 12) stress in
    let few = stress-few projection in
    omega (arith, few, is)

whole-few : (what : Whole) → whole_lives what ≡ true → whole_family what < 154
whole-few what live = let is = family-listed what live in let most = number-most what in omega (arith, is, most)

family-few : (sheet : BalanceSheet) (node : Node) → is_live sheet node ≡ true → family_of node < stride (table_of node)
family-few sheet (nodes.Fund name of_funds.Total) live = omega arith
family-few sheet (nodes.Security name what) live = security-few what
family-few sheet (nodes.Liability name what) live = liability-few sheet name what live
family-few sheet (nodes.Currency name what) live = currency-few what
family-few sheet (nodes.Group name what) live = group-few what
family-few sheet (nodes.Whole what) live = whole-few what live

-- ---- the row is there

some-of : {Row : Type 0} (test : Row → Bool) (row : Option Row) → option_map_or test row false ≡ true → is_some row ≡ true
some-of test None e = absurd (cc)
some-of test (Some row) e = refl

abbrev At : BalanceSheet → Node → Type 0
At sheet node = (k : ℕ) × (slice_get (names_in sheet (table_of node)) k ≡ Some (name_of node))

row-there : (sheet : BalanceSheet) (node : Node) → is_live sheet node ≡ true → At sheet node
row-there sheet (nodes.Fund name of_funds.Total) live = found stake_name name sheet.funds live
row-there sheet (nodes.Security name of_securities.Total) live = found position_name name sheet.securities live
row-there sheet (nodes.Security name (of_securities.UnitLoss direction)) live =
    found position_name name sheet.securities (some-of is_paying (row_of position_name name sheet.securities) live)
row-there sheet (nodes.Security name (of_securities.Rate direction)) live =
    found position_name name sheet.securities (some-of is_paying (row_of position_name name sheet.securities) live)
row-there sheet (nodes.Security name of_securities.Spread) live =
    found position_name name sheet.securities (some-of (has_class classes.Bond) (row_of position_name name sheet.securities) live)
row-there sheet (nodes.Liability name (of_liabilities.Rate direction)) live = found liability_name name sheet.liabilities live
row-there sheet (nodes.Liability name of_liabilities.Present) live = found liability_name name sheet.liabilities live
row-there sheet (nodes.Liability name (of_liabilities.Loss projection)) live =
    found liability_name name sheet.liabilities (some-of (has_flows projection) (row_of liability_name name sheet.liabilities)
    (and_parts (is_stress projection) (option_map_or (has_flows projection) (liability_of name sheet.liabilities) false) live).1)
row-there sheet (nodes.Currency name (of_currencies.Loss direction)) live = found curve_name name sheet.curves live
row-there sheet (nodes.Currency name (of_currencies.Scenario direction measure)) live =
    found curve_name name sheet.curves (some-of (is_foreign sheet) (row_of curve_name name sheet.curves) live)
row-there sheet (nodes.Currency name of_currencies.Choice) live =
    found curve_name name sheet.curves (some-of (is_foreign sheet) (row_of curve_name name sheet.curves) live)
row-there sheet (nodes.Currency name (of_currencies.Picked measure)) live =
    found curve_name name sheet.curves (some-of (is_foreign sheet) (row_of curve_name name sheet.curves) live)
row-there sheet (nodes.Group name of_groups.Total) live = found group_name name sheet.groups live
row-there sheet (nodes.Group name of_groups.ConcentrationSquare) live = found group_name name sheet.groups live
row-there sheet (nodes.Group name of_groups.Loss) live = found group_name name sheet.groups live
row-there sheet (nodes.Whole what) live = (0, refl)

pub live-stands : (sheet : BalanceSheet) (places : Numbered) → IsNumbered sheet places → (node : Node) → is_live sheet node ≡ true
    → (number : ℕ) × StandsAt sheet places node number
live-stands sheet places numbered node live =
    let row = row-there sheet node live in
    (first places (table_of node) row.0 + family_of node, stands sheet places numbered node (family-few sheet node live) row.0 row.1)
