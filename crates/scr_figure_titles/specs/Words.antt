-- The words for what figures are told apart by (this project's own).
use Rattle.std.specs.Prelude.{ℕ, List, codes}
use Rattle.scr_nodes.specs.declared.node.Direction.{Direction}
use Rattle.scr_nodes.specs.declared.node.Direction.TheVariants as directions
use Rattle.scr_nodes.specs.declared.node.Measure.{Measure}
use Rattle.scr_nodes.specs.declared.node.Measure.TheVariants as measures
use Rattle.scr_nodes.specs.declared.node.Alternatives.{Alternatives}
use Rattle.scr_nodes.specs.declared.node.Alternatives.TheVariants as alternatives
use Rattle.scr_sheet.specs.declared.rows.Class.{Class}
use Rattle.scr_sheet.specs.declared.rows.Class.TheVariants as classes
use Rattle.scr_nodes.specs.declared.node.Equities.{Equities}
use Rattle.scr_nodes.specs.declared.node.Equities.TheVariants as equities
use Rattle.scr_nodes.specs.declared.node.Risk.{Risk}
use Rattle.scr_nodes.specs.declared.node.Risk.TheVariants as risks
use Rattle.scr_sheet.specs.declared.keys.Projection.{Projection}
use Rattle.scr_sheet.specs.declared.keys.Projection.TheVariants as projections
use Rattle.scr_profile.specs.declared.default_class.DefaultClass.{DefaultClass}
use Rattle.scr_profile.specs.declared.default_class.DefaultClass.TheVariants as default_classes
use Rattle.scr_profile.specs.declared.segment.Segment.{Segment}
use Rattle.scr_profile.specs.declared.segment.Segment.TheVariants as segments
use Rattle.scr_profile.specs.declared.set.Set.{Set}
use Rattle.scr_profile.specs.declared.set.Set.TheVariants as sets
use Rattle.scr_sheet.specs.declared.keys.CatKey.{CatKey}
use Rattle.scr_sheet.specs.declared.keys.CatKey.TheVariants as cats
use Rattle.scr_nodes.specs.declared.node.Operational.{Operational}
use Rattle.scr_nodes.specs.declared.node.Operational.TheVariants as operations
use Rattle.scr_nodes.specs.declared.node.Adjustment.{Adjustment}
use Rattle.scr_nodes.specs.declared.node.Adjustment.TheVariants as adjustments

abbrev pub direction_words : Direction → List ℕ
direction_words directions.Up = codes ", rise"
direction_words directions.Down = codes ", fall"

abbrev pub measure_words : Measure → List ℕ
measure_words measures.Gross = codes ", gross"
measure_words measures.Net = codes ", net"

abbrev pub alternatives_words : Alternatives → List ℕ
alternatives_words alternatives.Interest = codes "interest rate risk"
alternatives_words alternatives.LifeLapse = codes "lapse risk of life"
alternatives_words alternatives.HealthLapse = codes "lapse risk of health similar to life"

abbrev pub class_words : Class → List ℕ
class_words classes.Type1Equity = codes "type 1 equities"
class_words classes.Type1Strategic = codes "strategic type 1 equities"
class_words classes.Type2Equity = codes "type 2 equities"
class_words classes.Type2Strategic = codes "strategic type 2 equities"
class_words classes.Infrastructure = codes "infrastructure equities"
class_words classes.InfrastructureCorporate = codes "infrastructure corporate equities"
class_words classes.Property = codes "property"
class_words classes.Bond = codes "bonds and loans"
class_words classes.Government = codes "bonds of governments"
class_words classes.Other = codes "other securities"

abbrev pub equities_words : Equities → List ℕ
equities_words equities.Type1 = codes "type 1"
equities_words equities.Type2 = codes "type 2"
equities_words equities.Infrastructure = codes "infrastructure"
equities_words equities.InfrastructureCorporate = codes "infrastructure corporate"

abbrev pub risk_words : Risk → List ℕ
risk_words risks.Equity = codes "equity risk"
risk_words risks.Property = codes "property risk"
risk_words risks.Spread = codes "spread risk"
risk_words risks.Concentration = codes "market risk concentrations"
risk_words risks.Default = codes "counterparty default risk"
risk_words risks.HealthCatastrophe = codes "health catastrophe risk"

abbrev pub projection_words : Projection → List ℕ
projection_words projections.Base = codes "best estimate"
projection_words projections.Mortality = codes "mortality risk"
projection_words projections.Longevity = codes "longevity risk"
projection_words projections.Disability = codes "disability and morbidity risk"
projection_words projections.Expense = codes "expense risk"
projection_words projections.Revision = codes "revision risk"
projection_words projections.LapseUp = codes "lapse risk, more lapses"
projection_words projections.LapseDown = codes "lapse risk, fewer lapses"
projection_words projections.LapseMass = codes "lapse risk, mass lapse"
projection_words projections.Catastrophe = codes "life catastrophe risk"

abbrev pub set_words : Set → List ℕ
set_words sets.Nl = codes "non-life"
set_words sets.Nslt = codes "health not similar to life"

abbrev pub catastrophe_words : CatKey → List ℕ
catastrophe_words cats.Windstorm = codes "windstorm"
catastrophe_words cats.Earthquake = codes "earthquake"
catastrophe_words cats.Flood = codes "flood"
catastrophe_words cats.Hail = codes "hail"
catastrophe_words cats.Subsidence = codes "subsidence"
catastrophe_words cats.NonProportionalProperty = codes "non-proportional property reinsurance"
catastrophe_words cats.Motor = codes "motor vehicle liability"
catastrophe_words cats.Marine = codes "marine"
catastrophe_words cats.Aviation = codes "aviation"
catastrophe_words cats.Fire = codes "fire"
catastrophe_words cats.Liability = codes "liability"
catastrophe_words cats.Credit = codes "credit and suretyship"
catastrophe_words cats.Other = codes "other non-life catastrophes"
catastrophe_words cats.MassAccident = codes "mass accident"
catastrophe_words cats.AccidentConcentration = codes "accident concentration"
catastrophe_words cats.Pandemic = codes "pandemic"

abbrev pub operational_words : Operational → List ℕ
operational_words operations.Premiums = codes ", by premiums"
operational_words operations.Provisions = codes ", by provisions"
operational_words operations.Cap = codes ", the cap"
operational_words operations.Charge = codes ""

abbrev pub adjustment_words : Adjustment → List ℕ
adjustment_words adjustments.TechnicalProvisions = codes "technical provisions"
adjustment_words adjustments.DeferredTaxes = codes "deferred taxes"

-- the classes of probabilities of default (Article 199)
abbrev pub probability_words : DefaultClass → List ℕ
probability_words default_classes.Step0 = codes "first class of probabilities"
probability_words default_classes.Step1 = codes "second class of probabilities"
probability_words default_classes.Step2 = codes "third class of probabilities"
probability_words default_classes.Step3 = codes "fourth class of probabilities"
probability_words default_classes.Step4 = codes "fifth class of probabilities"
probability_words default_classes.Steps5And6 = codes "sixth class of probabilities"

-- the segments of non-life (Annex II) and of health not similar to life (Annex XIV)
abbrev pub segment_words : Segment → List ℕ
segment_words segments.MotorLiability = codes "motor vehicle liability"
segment_words segments.OtherMotor = codes "other motor"
segment_words segments.Transport = codes "marine, aviation and transport"
segment_words segments.Property = codes "fire and other damage to property"
segment_words segments.GeneralLiability = codes "general liability"
segment_words segments.Credit = codes "credit and suretyship"
segment_words segments.LegalExpenses = codes "legal expenses"
segment_words segments.Assistance = codes "assistance"
segment_words segments.FinancialLoss = codes "miscellaneous financial loss"
segment_words segments.CasualtyReinsurance = codes "non-proportional casualty reinsurance"
segment_words segments.TransportReinsurance = codes "non-proportional marine, aviation and transport reinsurance"
segment_words segments.PropertyReinsurance = codes "non-proportional property reinsurance"
segment_words segments.MedicalExpense = codes "medical expense"
segment_words segments.IncomeProtection = codes "income protection"
segment_words segments.WorkersCompensation = codes "workers' compensation"
segment_words segments.HealthReinsurance = codes "non-proportional health reinsurance"
