-- The large sums (Delegated Regulation (EU) 2015/35, Articles 165, 168, 175, 182 to 184 and 188; that they are regrouped is own).
-- Each has members, adds up one figure of each member, and is read by one figure or two.
use Rattle.std.specs.Prelude.{ℕ, List, Option, Some, None, filter, map}
use Rattle.scr_sheet.specs.BalanceSheet.{group_name, liability_name, position_name, stake_name}
use Rattle.scr_sheet.specs.declared.rows.Class.TheVariants as classes
use Rattle.scr_sheet.specs.declared.rows.LiabilityKind.{LiabilityKind}
use Rattle.scr_sheet.specs.declared.rows.LiabilityKind.TheVariants as kinds
use Rattle.scr_sheet.specs.declared.sheet.BalanceSheet.{BalanceSheet}
use Rattle.scr_sheet.specs.declared.roll.Roll.{Roll}
use Rattle.scr_sheet.specs.declared.roll.Roll.TheVariants as rolls
use Rattle.scr_nodes.specs.declared.node.Biometric.{Biometric}
use Rattle.scr_nodes.specs.declared.node.Biometric.TheVariants as biometrics
use Rattle.scr_nodes.specs.declared.node.Direction.TheVariants as directions
use Rattle.scr_nodes.specs.declared.node.Measure.TheVariants as measures
use Rattle.scr_nodes.specs.declared.node.Node.{Node}
use Rattle.scr_nodes.specs.declared.node.Node.TheVariants as nodes
use Rattle.scr_nodes.specs.declared.node.OfCurrency.TheVariants as of_currencies
use Rattle.scr_nodes.specs.declared.node.OfFund.TheVariants as of_funds
use Rattle.scr_nodes.specs.declared.node.OfGroup.TheVariants as of_groups
use Rattle.scr_nodes.specs.declared.node.OfLiability.TheVariants as of_liabilities
use Rattle.scr_nodes.specs.declared.node.OfSecurity.TheVariants as of_securities
use Rattle.scr_nodes.specs.declared.node.Whole.TheVariants as wholes
use Rattle.scr_nodes.specs.Rows.{has_class, has_group, is_closed, is_held_in, is_of_group, is_owed_in, is_paying_in, is_stressed}
use Rattle.scr_block_graph.specs.declared.sum.Sum.{Sum}
use Rattle.scr_block_graph.specs.declared.sum.Sum.TheVariants as sums

-- The kind of liabilities on which biometric stresses fall (Articles 136 and 151).
abbrev pub kind_of : Biometric → LiabilityKind
kind_of biometrics.Life = kinds.Life
kind_of biometrics.Health = kinds.Health

-- The member list over which the sum runs (own).
abbrev pub roll_of : Sum → Roll
roll_of (sums.Class class) = rolls.Class class
roll_of sums.Closed = rolls.Closed
roll_of sums.Spreads = rolls.Bonds
roll_of sums.Grouped = rolls.Grouped
roll_of (sums.Group name) = rolls.Group name
roll_of (sums.Assets currency) = rolls.Assets currency
roll_of (sums.Rates currency direction) = rolls.Flows currency
roll_of (sums.Costs currency direction) = rolls.Lines currency
roll_of (sums.Presents currency) = rolls.Lines currency
roll_of (sums.Losses biometric projection) = rolls.Losses (kind_of biometric) projection
roll_of sums.Squares = rolls.Groups

-- The figure of a member that the sum adds up (Articles 136, 151, 165, 168, 175, 182 to 184 and 188).
abbrev pub member_of : Sum → List ℕ → Node
member_of (sums.Class class) name = nodes.Security name of_securities.Total
member_of sums.Closed name = nodes.Fund name of_funds.Total
member_of sums.Spreads name = nodes.Security name of_securities.Spread
member_of sums.Grouped name = nodes.Security name of_securities.Total
member_of (sums.Group group) name = nodes.Security name of_securities.Total
member_of (sums.Assets currency) name = nodes.Security name of_securities.Total
member_of (sums.Rates currency direction) name = nodes.Security name (of_securities.Rate direction)
member_of (sums.Costs currency direction) name = nodes.Liability name (of_liabilities.Rate direction)
member_of (sums.Presents currency) name = nodes.Liability name of_liabilities.Present
member_of (sums.Losses biometric projection) name = nodes.Liability name (of_liabilities.Loss projection)
member_of sums.Squares name = nodes.Group name of_groups.ConcentrationSquare

-- The names of the rows that the sum adds up, in table order (Articles 136, 151, 165, 168, 175, 182 to 184 and 188).
abbrev pub names_listed : BalanceSheet → Sum → List (List ℕ)
names_listed sheet (sums.Class class) = map position_name (filter (has_class class) sheet.securities)
names_listed sheet sums.Closed = map stake_name (filter is_closed sheet.funds)
names_listed sheet sums.Spreads = map position_name (filter (has_class classes.Bond) sheet.securities)
names_listed sheet sums.Grouped = map position_name (filter has_group sheet.securities)
names_listed sheet (sums.Group group) = map position_name (filter (is_of_group group) sheet.securities)
names_listed sheet (sums.Assets currency) = map position_name (filter (is_held_in currency) sheet.securities)
names_listed sheet (sums.Rates currency direction) = map position_name (filter (is_paying_in currency) sheet.securities)
names_listed sheet (sums.Costs currency direction) = map liability_name (filter (is_owed_in currency) sheet.liabilities)
names_listed sheet (sums.Presents currency) = map liability_name (filter (is_owed_in currency) sheet.liabilities)
names_listed sheet (sums.Losses biometric projection) = map liability_name (filter (is_stressed biometric projection) sheet.liabilities)
names_listed sheet sums.Squares = map group_name sheet.groups

-- One figure that is computed from the sum (own). A currency's scenarios of rise and fall are computed from one pair of sums, and
-- the rise stands for both.
abbrev pub reader_of : Sum → Node
reader_of (sums.Class class) = nodes.Whole (wholes.ClassSum class)
reader_of sums.Closed = nodes.Whole (wholes.ClassSum classes.Type2Equity)
reader_of sums.Spreads = nodes.Whole wholes.Spread
reader_of sums.Grouped = nodes.Whole wholes.Assets
reader_of (sums.Group name) = nodes.Group name of_groups.Total
reader_of (sums.Assets currency) = nodes.Currency currency (of_currencies.Scenario directions.Up measures.Gross)
reader_of (sums.Rates currency direction) = nodes.Currency currency (of_currencies.Loss direction)
reader_of (sums.Costs currency direction) = nodes.Currency currency (of_currencies.Loss direction)
reader_of (sums.Presents currency) = nodes.Currency currency (of_currencies.Scenario directions.Up measures.Gross)
reader_of (sums.Losses biometric projection) = nodes.Whole (wholes.BioScenario biometric projection measures.Gross)
reader_of sums.Squares = nodes.Whole wholes.Concentration

-- The sum from which a figure is computed, the first if there are two; `None` for most figures (own).
abbrev pub first_sum : Node → Option Sum
first_sum (nodes.Group name of_groups.Total) = Some (sums.Group name)
first_sum (nodes.Currency currency (of_currencies.Loss direction)) = Some (sums.Rates currency direction)
first_sum (nodes.Currency currency (of_currencies.Scenario direction measures.Gross)) = Some (sums.Assets currency)
first_sum (nodes.Whole (wholes.ClassSum class)) = Some (sums.Class class)
first_sum (nodes.Whole wholes.Spread) = Some sums.Spreads
first_sum (nodes.Whole wholes.Assets) = Some sums.Grouped
first_sum (nodes.Whole wholes.Concentration) = Some sums.Squares
first_sum (nodes.Whole (wholes.BioScenario biometric projection measures.Gross)) = Some (sums.Losses biometric projection)
first_sum node = None

-- The second of two sums from which a figure is computed; `None` if there are not two (own).
abbrev pub second_sum : Node → Option Sum
second_sum (nodes.Currency currency (of_currencies.Loss direction)) = Some (sums.Costs currency direction)
second_sum (nodes.Currency currency (of_currencies.Scenario direction measures.Gross)) = Some (sums.Presents currency)
second_sum (nodes.Whole (wholes.ClassSum classes.Type2Equity)) = Some sums.Closed
second_sum node = None
