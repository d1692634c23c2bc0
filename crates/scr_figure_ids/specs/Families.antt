-- The row of a figure, and the figure's family among the row's figures (own). The families of a table are numbered from 0 up to
-- its stride. A figure that no balance sheet can have gets the stride as its family.
use Rattle.std.specs.Prelude.{ℕ, ◌+◌, ◌*◌, List, [], if◌then◌else◌}
use Rattle.scr_ids.specs.declared.table.Table.{Table}
use Rattle.scr_ids.specs.declared.table.Table.TheVariants as tables
use Rattle.scr_profile.specs.DefaultClasses.{first_step}
use Rattle.scr_profile.specs.Segments.{number_of, set_of}
use Rattle.scr_sheet.specs.declared.{keys.Projection.Projection}
use Rattle.scr_sheet.specs.declared.keys.Projection.TheVariants as projections
use Rattle.scr_nodes.specs.Numbers.{adjustment_place, charge_place, choice_place, class_place, direction_place, equities_place, measure_place, operational_place, risk_place, scenario_place, scenarios_from, segments_from, set_place}
use Rattle.scr_nodes.specs.Rows.{has_stress, is_stress}
use Rattle.scr_nodes.specs.declared.{node.Node.Node, node.OfCurrency.OfCurrency, node.OfFund.OfFund, node.OfGroup.OfGroup, node.OfLiability.OfLiability, node.OfSecurity.OfSecurity, node.Whole.Whole}
use Rattle.scr_nodes.specs.declared.node.Node.TheVariants as nodes
use Rattle.scr_nodes.specs.declared.node.OfCurrency.TheVariants as of_currencies
use Rattle.scr_nodes.specs.declared.node.OfFund.TheVariants as of_funds
use Rattle.scr_nodes.specs.declared.node.OfGroup.TheVariants as of_groups
use Rattle.scr_nodes.specs.declared.node.OfLiability.TheVariants as of_liabilities
use Rattle.scr_nodes.specs.declared.node.OfSecurity.TheVariants as of_securities
use Rattle.scr_nodes.specs.declared.node.Whole.TheVariants as wholes

-- The table of a figure's row (own).
abbrev pub table_of : Node → Table
table_of (nodes.Fund name what) = tables.Fund
table_of (nodes.Security name what) = tables.Security
table_of (nodes.Liability name what) = tables.Liability
table_of (nodes.Currency name what) = tables.Currency
table_of (nodes.Group name what) = tables.Group
table_of (nodes.Whole what) = tables.Whole

-- The name of a figure's row; empty for the whole sheet (own).
abbrev pub name_of : Node → List ℕ
name_of (nodes.Fund name what) = name
name_of (nodes.Security name what) = name
name_of (nodes.Liability name what) = name
name_of (nodes.Currency name what) = name
name_of (nodes.Group name what) = name
name_of (nodes.Whole what) = []

-- ---- the families of each table

-- The index of a biometric stress among a liability's loss figures, 0 to 8; the base projection counts as mortality (own).
abbrev pub stress_place : Projection → ℕ
stress_place projections.Base = 0
stress_place projections.Mortality = 0
stress_place projections.Longevity = 1
stress_place projections.Disability = 2
stress_place projections.Expense = 3
stress_place projections.Revision = 4
stress_place projections.LapseUp = 5
stress_place projections.LapseDown = 6
stress_place projections.LapseMass = 7
stress_place projections.Catastrophe = 8

-- The family of a fund's figure, always 0 (own).
abbrev pub fund_family : OfFund → ℕ
fund_family of_funds.Total = 0

-- The family of a security's figure, 0 to 5 (own).
abbrev pub security_family : OfSecurity → ℕ
security_family of_securities.Total = 0
security_family (of_securities.UnitLoss direction) = 1 + direction_place direction
security_family (of_securities.Rate direction) = 3 + direction_place direction
security_family of_securities.Spread = 5

-- The family of a liability's figure, 0 to 11; 12 for the loss of a projection that is no stress (own).
abbrev pub liability_family : OfLiability → ℕ
liability_family (of_liabilities.Rate direction) = direction_place direction
liability_family of_liabilities.Present = 2
liability_family (of_liabilities.Loss projection) = if is_stress projection then 3 + stress_place projection else 12

-- The family of a group's figure, 0 to 2 (own).
abbrev pub group_family : OfGroup → ℕ
group_family of_groups.Total = 0
group_family of_groups.ConcentrationSquare = 1
group_family of_groups.Loss = 2

-- The family of a currency's figure, 0 to 8 (own).
abbrev pub currency_family : OfCurrency → ℕ
currency_family (of_currencies.Loss direction) = direction_place direction
currency_family (of_currencies.Scenario direction measure) = 2 + 2 * direction_place direction + measure_place measure
currency_family of_currencies.Choice = 6
currency_family (of_currencies.Picked measure) = 7 + measure_place measure

-- The family of a figure of the whole sheet, 0 to 153; 154 for a scenario that has no stress (own).
abbrev pub whole_family : Whole → ℕ
whole_family (wholes.ClassSum class) = class_place class
whole_family (wholes.EquityPart equities) = 10 + equities_place equities
whole_family (wholes.InterestScenario direction measure) = 14 + 2 * direction_place direction + measure_place measure
whole_family (wholes.Choice which) = choice_place which
whole_family (wholes.Picked which measure) = 1 + choice_place which + measure_place measure
whole_family wholes.EquityRoot = 21
whole_family wholes.Property = 22
whole_family wholes.Spread = 23
whole_family wholes.Concentration = 24
whole_family (wholes.NetPart risk) = risk_place risk
whole_family (wholes.Currency measure) = 29 + measure_place measure
whole_family (wholes.Market measure) = 31 + measure_place measure
whole_family (wholes.ClassLoss class) = 33 + first_step class
whole_family (wholes.ClassSquare class) = 39 + first_step class
whole_family wholes.Variance = 45
whole_family wholes.DefaultBand = 46
whole_family wholes.DefaultType1 = 47
whole_family wholes.DefaultType2 = 48
whole_family wholes.Default = 49
whole_family (wholes.BioScenario biometric projection measure) =
    if has_stress biometric projection then scenarios_from biometric + scenario_place projection + measure_place measure else 154
whole_family (wholes.Life measure) = 72 + measure_place measure
whole_family (wholes.Slt measure) = 93 + measure_place measure
whole_family (wholes.Segment segment) = segments_from (set_of segment) + number_of segment
whole_family (wholes.CatCharge key) = 111 + charge_place key
whole_family (wholes.Lapse set) = 127 + set_place set
whole_family wholes.Intangible = 129
whole_family (wholes.PremiumReserve set) = 130 + set_place set
whole_family wholes.Natural = 132
whole_family wholes.ManMade = 133
whole_family wholes.NonlifeCatastrophe = 134
whole_family wholes.HealthCatastrophe = 135
whole_family (wholes.Nslt measure) = 137 + measure_place measure
whole_family (wholes.Health measure) = 139 + measure_place measure
whole_family (wholes.Nonlife measure) = 141 + measure_place measure
whole_family (wholes.Bscr measure) = 143 + measure_place measure
whole_family wholes.Diversification = 145
whole_family (wholes.OpPart part) = 146 + operational_place part
whole_family (wholes.Adjust adjustment) = 150 + adjustment_place adjustment
whole_family wholes.Scr = 152
whole_family wholes.Assets = 153

-- The family of a figure: its index among the figures of its row (own).
abbrev pub family_of : Node → ℕ
family_of (nodes.Fund name what) = fund_family what
family_of (nodes.Security name what) = security_family what
family_of (nodes.Liability name what) = liability_family what
family_of (nodes.Currency name what) = currency_family what
family_of (nodes.Group name what) = group_family what
family_of (nodes.Whole what) = whole_family what
