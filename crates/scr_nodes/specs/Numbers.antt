-- A number for each figure of the whole sheet, in the order in which they are listed (this project's own).
use Rattle.std.specs.Prelude.{ℕ, ◌+◌, ◌*◌, List, [], ◌∷◌, ◌++◌}
use Rattle.scr_profile.specs.DefaultClasses.{first_step}
use Rattle.scr_profile.specs.Segments.{number_of, set_of}
use Rattle.scr_profile.specs.declared.set.Set.{Set}
use Rattle.scr_profile.specs.declared.set.Set.TheVariants as sets
use Rattle.scr_sheet.specs.declared.keys.CatKey.{CatKey}
use Rattle.scr_sheet.specs.declared.keys.CatKey.TheVariants as cats
use Rattle.scr_sheet.specs.declared.keys.Projection.{Projection}
use Rattle.scr_sheet.specs.declared.keys.Projection.TheVariants as projections
use Rattle.scr_sheet.specs.declared.rows.Class.{Class}
use Rattle.scr_sheet.specs.declared.rows.Class.TheVariants as classes
use Rattle.scr_nodes.specs.declared.node.Adjustment.{Adjustment}
use Rattle.scr_nodes.specs.declared.node.Adjustment.TheVariants as adjustments
use Rattle.scr_nodes.specs.declared.node.Alternatives.{Alternatives}
use Rattle.scr_nodes.specs.declared.node.Alternatives.TheVariants as alternatives
use Rattle.scr_nodes.specs.declared.node.Biometric.{Biometric}
use Rattle.scr_nodes.specs.declared.node.Biometric.TheVariants as biometrics
use Rattle.scr_nodes.specs.declared.node.Direction.{Direction}
use Rattle.scr_nodes.specs.declared.node.Direction.TheVariants.{Up, Down}
use Rattle.scr_nodes.specs.declared.node.Equities.{Equities}
use Rattle.scr_nodes.specs.declared.node.Equities.TheVariants as equities
use Rattle.scr_nodes.specs.declared.node.Measure.{Measure}
use Rattle.scr_nodes.specs.declared.node.Measure.TheVariants.{Gross, Net}
use Rattle.scr_nodes.specs.declared.node.Node.{Node}
use Rattle.scr_nodes.specs.declared.node.Node.TheVariants as nodes
use Rattle.scr_nodes.specs.declared.node.Operational.{Operational}
use Rattle.scr_nodes.specs.declared.node.Operational.TheVariants as operations
use Rattle.scr_nodes.specs.declared.node.Risk.{Risk}
use Rattle.scr_nodes.specs.declared.node.Risk.TheVariants as risks
use Rattle.scr_nodes.specs.declared.node.Whole.{Whole}
use Rattle.scr_nodes.specs.declared.node.Whole.TheVariants as wholes
use Rattle.scr_nodes.specs.LiveNodes.{constant_nodes}

-- ---- places within a family

abbrev pub direction_place : Direction → ℕ
direction_place Up = 0
direction_place Down = 1

abbrev pub measure_place : Measure → ℕ
measure_place Gross = 0
measure_place Net = 1

abbrev pub class_place : Class → ℕ
class_place classes.Type1Equity = 0
class_place classes.Type1Strategic = 1
class_place classes.Type2Equity = 2
class_place classes.Type2Strategic = 3
class_place classes.Infrastructure = 4
class_place classes.InfrastructureCorporate = 5
class_place classes.Property = 6
class_place classes.Bond = 7
class_place classes.Government = 8
class_place classes.Other = 9

abbrev pub equities_place : Equities → ℕ
equities_place equities.Type1 = 0
equities_place equities.Type2 = 1
equities_place equities.Infrastructure = 2
equities_place equities.InfrastructureCorporate = 3

-- among the scenarios of one kind
abbrev pub scenario_place : Projection → ℕ
scenario_place projections.Base = 0
scenario_place projections.Mortality = 0
scenario_place projections.Longevity = 2
scenario_place projections.Disability = 4
scenario_place projections.Expense = 6
scenario_place projections.Revision = 8
scenario_place projections.LapseUp = 10
scenario_place projections.LapseDown = 12
scenario_place projections.LapseMass = 14
scenario_place projections.Catastrophe = 19

abbrev pub scenarios_from : Biometric → ℕ
scenarios_from biometrics.Life = 51
scenarios_from biometrics.Health = 74

abbrev pub choice_place : Alternatives → ℕ
choice_place alternatives.Interest = 18
choice_place alternatives.LifeLapse = 67
choice_place alternatives.HealthLapse = 90

abbrev pub risk_place : Risk → ℕ
risk_place risks.Equity = 25
risk_place risks.Property = 26
risk_place risks.Spread = 27
risk_place risks.Concentration = 28
risk_place risks.Default = 50
risk_place risks.HealthCatastrophe = 136

abbrev pub charge_place : CatKey → ℕ
charge_place cats.Windstorm = 0
charge_place cats.Earthquake = 1
charge_place cats.Flood = 2
charge_place cats.Hail = 3
charge_place cats.Subsidence = 4
charge_place cats.Motor = 5
charge_place cats.Marine = 6
charge_place cats.Aviation = 7
charge_place cats.Fire = 8
charge_place cats.Liability = 9
charge_place cats.Credit = 10
charge_place cats.NonProportionalProperty = 11
charge_place cats.Other = 12
charge_place cats.MassAccident = 13
charge_place cats.AccidentConcentration = 14
charge_place cats.Pandemic = 15

abbrev pub set_place : Set → ℕ
set_place sets.Nl = 0
set_place sets.Nslt = 1

abbrev pub segments_from : Set → ℕ
segments_from sets.Nl = 94
segments_from sets.Nslt = 106

abbrev pub operational_place : Operational → ℕ
operational_place operations.Premiums = 0
operational_place operations.Provisions = 1
operational_place operations.Cap = 2
operational_place operations.Charge = 3

abbrev pub adjustment_place : Adjustment → ℕ
adjustment_place adjustments.TechnicalProvisions = 0
adjustment_place adjustments.DeferredTaxes = 1

-- ---- all

-- Assets stand among the figures of groups, so they come last here
abbrev pub number_of_whole : Whole → ℕ
number_of_whole (wholes.ClassSum class) = class_place class
number_of_whole (wholes.EquityPart equities) = 10 + equities_place equities
number_of_whole (wholes.InterestScenario direction measure) = 14 + 2 * direction_place direction + measure_place measure
number_of_whole (wholes.Choice which) = choice_place which
number_of_whole (wholes.Picked which measure) = 1 + choice_place which + measure_place measure
number_of_whole wholes.EquityRoot = 21
number_of_whole wholes.Property = 22
number_of_whole wholes.Spread = 23
number_of_whole wholes.Concentration = 24
number_of_whole (wholes.NetPart risk) = risk_place risk
number_of_whole (wholes.Currency measure) = 29 + measure_place measure
number_of_whole (wholes.Market measure) = 31 + measure_place measure
number_of_whole (wholes.ClassLoss class) = 33 + first_step class
number_of_whole (wholes.ClassSquare class) = 39 + first_step class
number_of_whole wholes.Variance = 45
number_of_whole wholes.DefaultBand = 46
number_of_whole wholes.DefaultType1 = 47
number_of_whole wholes.DefaultType2 = 48
number_of_whole wholes.Default = 49
number_of_whole (wholes.BioScenario biometric projection measure) = scenarios_from biometric + scenario_place projection + measure_place measure
number_of_whole (wholes.Life measure) = 72 + measure_place measure
number_of_whole (wholes.Slt measure) = 93 + measure_place measure
number_of_whole (wholes.Segment segment) = segments_from (set_of segment) + number_of segment
number_of_whole (wholes.CatCharge key) = 111 + charge_place key
number_of_whole (wholes.Lapse set) = 127 + set_place set
number_of_whole wholes.Intangible = 129
number_of_whole (wholes.PremiumReserve set) = 130 + set_place set
number_of_whole wholes.Natural = 132
number_of_whole wholes.ManMade = 133
number_of_whole wholes.NonlifeCatastrophe = 134
number_of_whole wholes.HealthCatastrophe = 135
number_of_whole (wholes.Nslt measure) = 137 + measure_place measure
number_of_whole (wholes.Health measure) = 139 + measure_place measure
number_of_whole (wholes.Nonlife measure) = 141 + measure_place measure
number_of_whole (wholes.Bscr measure) = 143 + measure_place measure
number_of_whole wholes.Diversification = 145
number_of_whole (wholes.OpPart part) = 146 + operational_place part
number_of_whole (wholes.Adjust adjustment) = 150 + adjustment_place adjustment
number_of_whole wholes.Scr = 152
number_of_whole wholes.Assets = 153

-- each stands at the place that is its number
abbrev pub whole_nodes : List Node
whole_nodes = constant_nodes ++ nodes.Whole wholes.Assets ∷ []
