-- What figures are called, the articles that they are by, how they come from their sources, and their units (this project's
-- own, after Delegated Regulation (EU) 2015/35).
use Rattle.std.specs.Prelude.{ℕ, ◌++◌, List, [], codes}
use Rattle.scr_profile.specs.Segments.{set_of}
use Rattle.scr_nodes.specs.declared.node.Node.{Node}
use Rattle.scr_nodes.specs.declared.node.Node.TheVariants as nodes
use Rattle.scr_nodes.specs.declared.node.OfFund.TheVariants as of_funds
use Rattle.scr_nodes.specs.declared.node.OfSecurity.TheVariants as of_securities
use Rattle.scr_nodes.specs.declared.node.OfLiability.TheVariants as of_liabilities
use Rattle.scr_nodes.specs.declared.node.OfCurrency.TheVariants as of_currencies
use Rattle.scr_nodes.specs.declared.node.OfGroup.TheVariants as of_groups
use Rattle.scr_nodes.specs.declared.node.Whole.TheVariants as wholes
use Rattle.scr_nodes.specs.declared.node.Measure.TheVariants as measures
use Rattle.scr_nodes.specs.declared.node.Alternatives.TheVariants as alternatives
use Rattle.scr_nodes.specs.declared.node.Biometric.TheVariants as biometrics
use Rattle.scr_nodes.specs.declared.node.Operational.TheVariants as operations
use Rattle.scr_nodes.specs.declared.node.Adjustment.TheVariants as adjustments
use Rattle.scr_figure_titles.specs.declared.step.Step.{Step}
use Rattle.scr_figure_titles.specs.declared.step.Step.TheVariants as steps
use Rattle.scr_figure_titles.specs.declared.unit.Unit.{Unit}
use Rattle.scr_figure_titles.specs.declared.unit.Unit.TheVariants as units
use Rattle.scr_figure_titles.specs.Articles.{adjustment_article, catastrophe_article, direction_article, lapse_article, line_article, premium_article, segment_article, stress_article}
use Rattle.scr_figure_titles.specs.Words.{adjustment_words, alternatives_words, catastrophe_words, class_words, direction_words, equities_words, measure_words, operational_words, probability_words, projection_words, risk_words, segment_words, set_words}

-- what a figure is, with others of its family
abbrev pub family : Node → List ℕ
family (nodes.Fund name of_funds.Total) = codes "value held, directly and through funds"
family (nodes.Security name of_securities.Total) = codes "value held, directly and through funds"
family (nodes.Security name (of_securities.UnitLoss direction)) = codes "loss of a unit of its value by interest rates"
family (nodes.Security name (of_securities.Rate direction)) = codes "loss by interest rates"
family (nodes.Security name of_securities.Spread) = codes "loss by spreads"
family (nodes.Liability name (of_liabilities.Rate direction)) = codes "additional cost by interest rates"
family (nodes.Liability name of_liabilities.Present) = codes "present value by the best estimate"
family (nodes.Liability name (of_liabilities.Loss projection)) = codes "additional cost under "
family (nodes.Currency name (of_currencies.Loss direction)) = codes "loss by interest rates"
family (nodes.Currency name (of_currencies.Scenario direction measure)) = codes "currency risk"
family (nodes.Currency name of_currencies.Choice) = codes "the scenario that may decide"
family (nodes.Currency name (of_currencies.Picked measure)) = codes "currency risk, the scenario that decides"
family (nodes.Group name of_groups.Total) = codes "exposure"
family (nodes.Group name of_groups.ConcentrationSquare) = codes "square of the requirement for concentration"
family (nodes.Group name of_groups.Loss) = codes "loss where it defaults"
family (nodes.Whole (wholes.InterestScenario direction measure)) = codes "interest rate risk"
family (nodes.Whole (wholes.Choice alternatives)) = codes "the scenario that may decide "
family (nodes.Whole (wholes.Picked alternatives measure)) = codes ""
family (nodes.Whole (wholes.Currency measure)) = codes "currency risk"
family (nodes.Whole (wholes.ClassSum class)) = codes "value held of "
family (nodes.Whole (wholes.EquityPart kind)) = codes "equity risk, "
family (nodes.Whole wholes.EquityRoot) = codes "equity risk"
family (nodes.Whole wholes.Property) = codes "property risk"
family (nodes.Whole wholes.Spread) = codes "spread risk"
family (nodes.Whole wholes.Assets) = codes "assets of which concentrations are measured"
family (nodes.Whole wholes.Concentration) = codes "market risk concentrations"
family (nodes.Whole (wholes.NetPart risk)) = codes ""
family (nodes.Whole (wholes.Market measure)) = codes "market risk"
family (nodes.Whole (wholes.ClassLoss digit)) = codes "sum of the losses by default, "
family (nodes.Whole (wholes.ClassSquare digit)) = codes "sum of the squares of the losses by default, "
family (nodes.Whole wholes.Variance) = codes "variance of the losses by default"
family (nodes.Whole wholes.DefaultBand) = codes "the band of the deviation that may decide"
family (nodes.Whole wholes.DefaultType1) = codes "type 1 exposures"
family (nodes.Whole wholes.DefaultType2) = codes "type 2 exposures"
family (nodes.Whole wholes.Default) = codes "counterparty default risk"
family (nodes.Whole (wholes.BioScenario biometrics.Life projection measure)) = codes "life: "
family (nodes.Whole (wholes.BioScenario biometrics.Health projection measure)) = codes "health similar to life: "
family (nodes.Whole (wholes.Life measure)) = codes "life underwriting risk"
family (nodes.Whole (wholes.Slt measure)) = codes "health underwriting risk similar to life"
family (nodes.Whole (wholes.Segment segment)) = codes "premium and reserve risk of a segment, "
family (nodes.Whole (wholes.PremiumReserve set)) = codes "premium and reserve risk of "
family (nodes.Whole (wholes.CatCharge key)) = codes "charge handed in for "
family (nodes.Whole (wholes.Lapse set)) = codes "lapse risk, handed in, of "
family (nodes.Whole wholes.Natural) = codes "natural catastrophe risk"
family (nodes.Whole wholes.ManMade) = codes "man-made catastrophe risk"
family (nodes.Whole wholes.NonlifeCatastrophe) = codes "non-life catastrophe risk"
family (nodes.Whole wholes.HealthCatastrophe) = codes "health catastrophe risk"
family (nodes.Whole (wholes.Nslt measure)) = codes "health underwriting risk not similar to life"
family (nodes.Whole (wholes.Health measure)) = codes "health underwriting risk"
family (nodes.Whole (wholes.Nonlife measure)) = codes "non-life underwriting risk"
family (nodes.Whole wholes.Intangible) = codes "intangible asset risk"
family (nodes.Whole (wholes.Bscr measure)) = codes "Basic Solvency Capital Requirement"
family (nodes.Whole (wholes.OpPart part)) = codes "operational risk"
family (nodes.Whole (wholes.Adjust adjustment)) = codes "adjustment for the loss-absorbing capacity of "
family (nodes.Whole wholes.Scr) = codes "Solvency Capital Requirement"
family (nodes.Whole wholes.Diversification) = codes "diversification of the modules"

-- which of its family it is
abbrev pub detail : Node → List ℕ
detail (nodes.Security name (of_securities.UnitLoss direction)) = direction_words direction
detail (nodes.Security name (of_securities.Rate direction)) = direction_words direction
detail (nodes.Liability name (of_liabilities.Rate direction)) = direction_words direction
detail (nodes.Liability name (of_liabilities.Loss projection)) = projection_words projection
detail (nodes.Currency name (of_currencies.Loss direction)) = direction_words direction
detail (nodes.Currency name (of_currencies.Scenario direction measure)) = direction_words direction
detail (nodes.Whole (wholes.InterestScenario direction measure)) = direction_words direction
detail (nodes.Whole (wholes.Choice alternatives)) = alternatives_words alternatives
detail (nodes.Whole (wholes.Picked alternatives measure)) = alternatives_words alternatives
detail (nodes.Whole (wholes.ClassSum class)) = class_words class
detail (nodes.Whole (wholes.EquityPart kind)) = equities_words kind
detail (nodes.Whole (wholes.NetPart risk)) = risk_words risk
detail (nodes.Whole (wholes.ClassLoss class)) = probability_words class
detail (nodes.Whole (wholes.ClassSquare class)) = probability_words class
detail (nodes.Whole (wholes.BioScenario biometric projection measure)) = projection_words projection
detail (nodes.Whole (wholes.Segment segment)) = segment_words segment
detail (nodes.Whole (wholes.PremiumReserve set)) = set_words set
detail (nodes.Whole (wholes.CatCharge key)) = catastrophe_words key
detail (nodes.Whole (wholes.Lapse set)) = set_words set
detail (nodes.Whole (wholes.OpPart part)) = operational_words part
detail (nodes.Whole (wholes.Adjust adjustment)) = adjustment_words adjustment
detail node = []

-- whether it is taken before or after absorption, where it has both
abbrev pub absorption : Node → List ℕ
absorption (nodes.Currency name (of_currencies.Scenario direction measure)) = measure_words measure
absorption (nodes.Currency name (of_currencies.Picked measure)) = measure_words measure
absorption (nodes.Whole (wholes.InterestScenario direction measure)) = measure_words measure
absorption (nodes.Whole (wholes.Picked alternatives measure)) = measure_words measure
absorption (nodes.Whole (wholes.Currency measure)) = measure_words measure
absorption (nodes.Whole wholes.EquityRoot) = measure_words measures.Gross
absorption (nodes.Whole wholes.Property) = measure_words measures.Gross
absorption (nodes.Whole wholes.Spread) = measure_words measures.Gross
absorption (nodes.Whole wholes.Concentration) = measure_words measures.Gross
absorption (nodes.Whole (wholes.NetPart risk)) = measure_words measures.Net
absorption (nodes.Whole (wholes.Market measure)) = measure_words measure
absorption (nodes.Whole wholes.Default) = measure_words measures.Gross
absorption (nodes.Whole (wholes.BioScenario biometric projection measure)) = measure_words measure
absorption (nodes.Whole (wholes.Life measure)) = measure_words measure
absorption (nodes.Whole (wholes.Slt measure)) = measure_words measure
absorption (nodes.Whole wholes.HealthCatastrophe) = measure_words measures.Gross
absorption (nodes.Whole (wholes.Nslt measure)) = measure_words measure
absorption (nodes.Whole (wholes.Health measure)) = measure_words measure
absorption (nodes.Whole (wholes.Nonlife measure)) = measure_words measure
absorption (nodes.Whole (wholes.Bscr measure)) = measure_words measure
absorption node = []

-- the articles that it is by: a figure after absorption is what Article 206(2) makes of its source, or the same root or sum
-- over figures after absorption
abbrev pub article : Node → List ℕ
article (nodes.Fund name of_funds.Total) = codes "Article 84"
article (nodes.Security name of_securities.Total) = codes "Article 84"
article (nodes.Security name (of_securities.UnitLoss direction)) = codes "Article 165"
article (nodes.Security name (of_securities.Rate direction)) = codes "Article 165"
article (nodes.Security name of_securities.Spread) = codes "Article 176"
article (nodes.Liability name (of_liabilities.Rate direction)) = codes "Article 165"
article (nodes.Liability name of_liabilities.Present) = codes "Article 188"
article (nodes.Liability name (of_liabilities.Loss projection)) = line_article projection
article (nodes.Currency name (of_currencies.Loss direction)) = codes "Article 165"
article (nodes.Currency name (of_currencies.Scenario direction measures.Gross)) = codes "Article 188(3) and (4)"
article (nodes.Currency name (of_currencies.Scenario direction measures.Net)) = codes "Article 206(2)"
article (nodes.Currency name of_currencies.Choice) = codes "Article 188(2)"
article (nodes.Currency name (of_currencies.Picked measure)) = codes "Article 188(2)"
article (nodes.Group name of_groups.Total) = codes "Article 182"
article (nodes.Group name of_groups.ConcentrationSquare) = codes "Articles 184(1) and 187"
article (nodes.Group name of_groups.Loss) = codes "Article 192"
article (nodes.Whole (wholes.InterestScenario direction measures.Gross)) = direction_article direction
article (nodes.Whole (wholes.InterestScenario direction measures.Net)) = codes "Article 206(2)"
article (nodes.Whole (wholes.Choice alternatives)) = codes "Article 206(2)"
article (nodes.Whole (wholes.Picked alternatives measure)) = codes "Article 206(2)"
article (nodes.Whole (wholes.Currency measures.Gross)) = codes "Article 188(1)"
article (nodes.Whole (wholes.Currency measures.Net)) = codes "Articles 188(1) and 206(2)"
article (nodes.Whole (wholes.ClassSum class)) = codes "Article 168"
article (nodes.Whole (wholes.EquityPart kind)) = codes "Articles 169 and 171"
article (nodes.Whole wholes.EquityRoot) = codes "Article 168(4)"
article (nodes.Whole wholes.Property) = codes "Article 174"
article (nodes.Whole wholes.Spread) = codes "Article 175"
article (nodes.Whole wholes.Assets) = codes "Article 184(2)"
article (nodes.Whole wholes.Concentration) = codes "Article 183"
article (nodes.Whole (wholes.NetPart risk)) = codes "Article 206(2)"
article (nodes.Whole (wholes.Market measures.Gross)) = codes "Article 164"
article (nodes.Whole (wholes.Market measures.Net)) = codes "Articles 164 and 206(2)"
article (nodes.Whole (wholes.ClassLoss digit)) = codes "Article 201"
article (nodes.Whole (wholes.ClassSquare digit)) = codes "Article 201"
article (nodes.Whole wholes.Variance) = codes "Article 201"
article (nodes.Whole wholes.DefaultBand) = codes "Article 200"
article (nodes.Whole wholes.DefaultType1) = codes "Article 200"
article (nodes.Whole wholes.DefaultType2) = codes "Article 202"
article (nodes.Whole wholes.Default) = codes "Article 189(1)"
article (nodes.Whole (wholes.BioScenario biometric projection measures.Gross)) = stress_article biometric projection
article (nodes.Whole (wholes.BioScenario biometric projection measures.Net)) = codes "Article 206(2)"
article (nodes.Whole (wholes.Life measures.Gross)) = codes "Article 136"
article (nodes.Whole (wholes.Life measures.Net)) = codes "Articles 136 and 206(2)"
article (nodes.Whole (wholes.Slt measures.Gross)) = codes "Article 151"
article (nodes.Whole (wholes.Slt measures.Net)) = codes "Articles 151 and 206(2)"
article (nodes.Whole (wholes.Segment segment)) = segment_article (set_of segment)
article (nodes.Whole (wholes.PremiumReserve set)) = premium_article set
article (nodes.Whole (wholes.CatCharge key)) = catastrophe_article key
article (nodes.Whole (wholes.Lapse set)) = lapse_article set
article (nodes.Whole wholes.Natural) = codes "Article 120"
article (nodes.Whole wholes.ManMade) = codes "Article 128"
article (nodes.Whole wholes.NonlifeCatastrophe) = codes "Article 119"
article (nodes.Whole wholes.HealthCatastrophe) = codes "Article 160"
article (nodes.Whole (wholes.Nslt measures.Gross)) = codes "Article 145"
article (nodes.Whole (wholes.Nslt measures.Net)) = codes "Articles 145 and 206(2)"
article (nodes.Whole (wholes.Health measures.Gross)) = codes "Article 144"
article (nodes.Whole (wholes.Health measures.Net)) = codes "Articles 144 and 206(2)"
article (nodes.Whole (wholes.Nonlife measures.Gross)) = codes "Article 114"
article (nodes.Whole (wholes.Nonlife measures.Net)) = codes "Articles 114 and 206(2)"
article (nodes.Whole wholes.Intangible) = codes "Article 203"
article (nodes.Whole (wholes.Bscr measures.Gross)) = codes "Article 87"
article (nodes.Whole (wholes.Bscr measures.Net)) = codes "Articles 87 and 206(2)"
article (nodes.Whole (wholes.OpPart part)) = codes "Article 204"
article (nodes.Whole (wholes.Adjust adjustment)) = adjustment_article adjustment
article (nodes.Whole wholes.Scr) = codes "Article 103 of Directive 2009/138/EC"
article (nodes.Whole wholes.Diversification) = codes "Article 87"

-- how it comes from its sources
abbrev pub step_of : Node → Step
step_of (nodes.Fund name of_funds.Total) = steps.LookThrough
step_of (nodes.Security name of_securities.Total) = steps.LookThrough
step_of (nodes.Security name (of_securities.UnitLoss direction)) = steps.Discounted
step_of (nodes.Security name (of_securities.Rate direction)) = steps.Product
step_of (nodes.Security name of_securities.Spread) = steps.Factor
step_of (nodes.Liability name (of_liabilities.Rate direction)) = steps.Discounted
step_of (nodes.Liability name of_liabilities.Present) = steps.Discounted
step_of (nodes.Liability name (of_liabilities.Loss projection)) = steps.Discounted
step_of (nodes.Currency name (of_currencies.Loss direction)) = steps.LossSum
step_of (nodes.Currency name (of_currencies.Scenario direction measures.Gross)) = steps.Exposure
step_of (nodes.Currency name (of_currencies.Scenario direction measures.Net)) = steps.Absorbed
step_of (nodes.Currency name of_currencies.Choice) = steps.Choice
step_of (nodes.Currency name (of_currencies.Picked measure)) = steps.Chosen
step_of (nodes.Group name of_groups.Total) = steps.Sum
step_of (nodes.Group name of_groups.ConcentrationSquare) = steps.Excess
step_of (nodes.Group name of_groups.Loss) = steps.Records
step_of (nodes.Whole (wholes.InterestScenario direction measures.Gross)) = steps.Sum
step_of (nodes.Whole (wholes.InterestScenario direction measures.Net)) = steps.Absorbed
step_of (nodes.Whole (wholes.Choice alternatives)) = steps.Choice
step_of (nodes.Whole (wholes.Picked alternatives measure)) = steps.Chosen
step_of (nodes.Whole (wholes.Currency measure)) = steps.Sum
step_of (nodes.Whole (wholes.ClassSum class)) = steps.Sum
step_of (nodes.Whole (wholes.EquityPart kind)) = steps.Share
step_of (nodes.Whole wholes.EquityRoot) = steps.Root
step_of (nodes.Whole wholes.Property) = steps.Share
step_of (nodes.Whole wholes.Spread) = steps.Sum
step_of (nodes.Whole wholes.Assets) = steps.Sum
step_of (nodes.Whole wholes.Concentration) = steps.RootOfSum
step_of (nodes.Whole (wholes.NetPart risk)) = steps.Absorbed
step_of (nodes.Whole (wholes.Market measure)) = steps.Root
step_of (nodes.Whole (wholes.ClassLoss digit)) = steps.Sum
step_of (nodes.Whole (wholes.ClassSquare digit)) = steps.Squares
step_of (nodes.Whole wholes.Variance) = steps.Variance
step_of (nodes.Whole wholes.DefaultBand) = steps.Band
step_of (nodes.Whole wholes.DefaultType1) = steps.Deviation
step_of (nodes.Whole wholes.DefaultType2) = steps.Records
step_of (nodes.Whole wholes.Default) = steps.Root
step_of (nodes.Whole (wholes.BioScenario biometric projection measures.Gross)) = steps.Sum
step_of (nodes.Whole (wholes.BioScenario biometric projection measures.Net)) = steps.Absorbed
step_of (nodes.Whole (wholes.Life measure)) = steps.Root
step_of (nodes.Whole (wholes.Slt measure)) = steps.Root
step_of (nodes.Whole (wholes.Segment segment)) = steps.Records
step_of (nodes.Whole (wholes.PremiumReserve set)) = steps.ThreeRoots
step_of (nodes.Whole (wholes.CatCharge key)) = steps.Records
step_of (nodes.Whole (wholes.Lapse set)) = steps.Records
step_of (nodes.Whole wholes.Natural) = steps.Root
step_of (nodes.Whole wholes.ManMade) = steps.Root
step_of (nodes.Whole wholes.NonlifeCatastrophe) = steps.Root
step_of (nodes.Whole wholes.HealthCatastrophe) = steps.Root
step_of (nodes.Whole (wholes.Nslt measure)) = steps.RootWithLapse
step_of (nodes.Whole (wholes.Health measure)) = steps.Root
step_of (nodes.Whole (wholes.Nonlife measure)) = steps.RootWithLapse
step_of (nodes.Whole wholes.Intangible) = steps.Records
step_of (nodes.Whole (wholes.Bscr measure)) = steps.Modules
step_of (nodes.Whole (wholes.OpPart operations.Premiums)) = steps.Records
step_of (nodes.Whole (wholes.OpPart operations.Provisions)) = steps.Records
step_of (nodes.Whole (wholes.OpPart operations.Cap)) = steps.Share
step_of (nodes.Whole (wholes.OpPart operations.Charge)) = steps.Charge
step_of (nodes.Whole (wholes.Adjust adjustments.TechnicalProvisions)) = steps.Benefits
step_of (nodes.Whole (wholes.Adjust adjustments.DeferredTaxes)) = steps.Taxes
step_of (nodes.Whole wholes.Scr) = steps.Sum
step_of (nodes.Whole wholes.Diversification) = steps.Diversification

-- its unit
abbrev pub unit_of : Node → Unit
unit_of (nodes.Fund name of_funds.Total) = units.Cents
unit_of (nodes.Security name of_securities.Total) = units.Cents
unit_of (nodes.Security name (of_securities.UnitLoss direction)) = units.Millionth
unit_of (nodes.Security name (of_securities.Rate direction)) = units.Attocents
unit_of (nodes.Security name of_securities.Spread) = units.Nanocents
unit_of (nodes.Liability name (of_liabilities.Rate direction)) = units.Attocents
unit_of (nodes.Liability name of_liabilities.Present) = units.Attocents
unit_of (nodes.Liability name (of_liabilities.Loss projection)) = units.Attocents
unit_of (nodes.Currency name (of_currencies.Loss direction)) = units.Attocents
unit_of (nodes.Currency name of_currencies.Choice) = units.Movements
unit_of (nodes.Group name of_groups.Total) = units.Cents
unit_of (nodes.Group name of_groups.ConcentrationSquare) = units.FineSquares
unit_of (nodes.Whole (wholes.Choice alternatives.Interest)) = units.Movements
unit_of (nodes.Whole (wholes.Choice alternatives.LifeLapse)) = units.Lapses
unit_of (nodes.Whole (wholes.Choice alternatives.HealthLapse)) = units.Lapses
unit_of (nodes.Whole (wholes.ClassSum class)) = units.Cents
unit_of (nodes.Whole wholes.Assets) = units.Cents
unit_of (nodes.Whole (wholes.ClassSquare digit)) = units.GrainSquares
unit_of (nodes.Whole wholes.Variance) = units.GrainSquares
unit_of (nodes.Whole wholes.DefaultBand) = units.Bands
unit_of node = units.Grains

-- the row that it is of
abbrev pub subject : Node → List ℕ
subject (nodes.Fund name what) = (codes "fund " ++ name) ++ codes ": "
subject (nodes.Security name what) = (codes "security " ++ name) ++ codes ": "
subject (nodes.Liability name what) = (codes "line " ++ name) ++ codes ": "
subject (nodes.Currency name what) = (codes "currency " ++ name) ++ codes ": "
subject (nodes.Group name what) = (codes "group " ++ name) ++ codes ": "
subject (nodes.Whole what) = []

unfoldable pub title : Node → List ℕ
title node = ((subject node ++ family node) ++ detail node) ++ absorption node
