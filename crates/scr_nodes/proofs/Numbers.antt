-- The figures of the whole sheet by their numbers, and back.
use Rattle.std.proofs.Common.{◌≡◌, ◌+◌, ◌≤◌, true, Some, slice_get, refl, arith}
use Rattle.scr_profile.specs.DefaultClasses.{first_step}
use Rattle.scr_profile.specs.Segments.{number_of, set_of}
use Rattle.scr_profile.specs.declared.default_class.DefaultClass.{DefaultClass}
use Rattle.scr_profile.specs.declared.default_class.DefaultClass.TheVariants as default_classes
use Rattle.scr_profile.specs.declared.segment.Segment.{Segment}
use Rattle.scr_profile.specs.declared.segment.Segment.TheVariants as segments
use Rattle.scr_profile.specs.declared.set.Set.{Set}
use Rattle.scr_profile.specs.declared.set.Set.TheVariants as sets
use Rattle.scr_sheet.specs.declared.keys.CatKey.{CatKey}
use Rattle.scr_sheet.specs.declared.keys.CatKey.TheVariants as cats
use Rattle.scr_sheet.specs.declared.keys.Projection.{Projection}
use Rattle.scr_sheet.specs.declared.keys.Projection.TheVariants as projections
use Rattle.scr_sheet.specs.declared.rows.Class.{Class}
use Rattle.scr_sheet.specs.declared.rows.Class.TheVariants as classes
use Rattle.scr_nodes.specs.declared.node.Adjustment.{Adjustment}
use Rattle.scr_nodes.specs.declared.node.Adjustment.TheVariants as adjustments
use Rattle.scr_nodes.specs.declared.node.Alternatives.{Alternatives}
use Rattle.scr_nodes.specs.declared.node.Alternatives.TheVariants as alternatives
use Rattle.scr_nodes.specs.declared.node.Biometric.{Biometric}
use Rattle.scr_nodes.specs.declared.node.Biometric.TheVariants as biometrics
use Rattle.scr_nodes.specs.declared.node.Direction.{Direction}
use Rattle.scr_nodes.specs.declared.node.Direction.TheVariants.{Up, Down}
use Rattle.scr_nodes.specs.declared.node.Equities.{Equities}
use Rattle.scr_nodes.specs.declared.node.Equities.TheVariants as equities
use Rattle.scr_nodes.specs.declared.node.Measure.{Measure}
use Rattle.scr_nodes.specs.declared.node.Measure.TheVariants.{Gross, Net}
use Rattle.scr_nodes.specs.declared.node.Node.TheVariants as nodes
use Rattle.scr_nodes.specs.declared.node.Operational.{Operational}
use Rattle.scr_nodes.specs.declared.node.Operational.TheVariants as operations
use Rattle.scr_nodes.specs.declared.node.Risk.{Risk}
use Rattle.scr_nodes.specs.declared.node.Risk.TheVariants as risks
use Rattle.scr_nodes.specs.declared.node.Whole.{Whole}
use Rattle.scr_nodes.specs.declared.node.Whole.TheVariants as wholes
use Rattle.scr_nodes.specs.Live.{whole_lives}
use Rattle.scr_nodes.specs.Numbers.{adjustment_place, charge_place, choice_place, class_place, direction_place, equities_place, measure_place, number_of_whole, operational_place, risk_place, scenario_place, scenarios_from, segments_from, set_place, whole_nodes}

-- ---- none is beyond the last

pub direction-place-most : (x : Direction) → direction_place x ≤ 1
direction-place-most Up = omega arith
direction-place-most Down = omega arith

pub measure-place-most : (x : Measure) → measure_place x ≤ 1
measure-place-most Gross = omega arith
measure-place-most Net = omega arith

equities-place-most : (x : Equities) → equities_place x ≤ 3
equities-place-most equities.Type1 = omega arith
equities-place-most x = omega arith

risk-place-most : (x : Risk) → risk_place x ≤ 136
risk-place-most risks.Equity = omega arith
risk-place-most x = omega arith

scenario-place-most : (x : Projection) → scenario_place x ≤ 19
scenario-place-most projections.Base = omega arith
scenario-place-most x = omega arith

scenarios-from-most : (x : Biometric) → scenarios_from x ≤ 74
scenarios-from-most biometrics.Life = omega arith
scenarios-from-most biometrics.Health = omega arith

choice-place-most : (x : Alternatives) → choice_place x ≤ 90
choice-place-most alternatives.Interest = omega arith
choice-place-most alternatives.LifeLapse = omega arith
choice-place-most alternatives.HealthLapse = omega arith

charge-place-most : (x : CatKey) → charge_place x ≤ 15
charge-place-most cats.Windstorm = omega arith
charge-place-most x = omega arith

set-place-most : (x : Set) → set_place x ≤ 1
set-place-most sets.Nl = omega arith
set-place-most sets.Nslt = omega arith

operational-place-most : (x : Operational) → operational_place x ≤ 3
operational-place-most operations.Premiums = omega arith
operational-place-most x = omega arith

adjustment-place-most : (x : Adjustment) → adjustment_place x ≤ 1
adjustment-place-most adjustments.TechnicalProvisions = omega arith
adjustment-place-most adjustments.DeferredTaxes = omega arith

class-place-most : (x : Class) → class_place x ≤ 9
class-place-most classes.Type1Equity = omega arith
class-place-most x = omega arith

first-step-most : (x : DefaultClass) → first_step x ≤ 5
first-step-most default_classes.Step0 = omega arith
first-step-most x = omega arith

segment-most : (x : Segment) → segments_from (set_of x) + number_of x ≤ 110
segment-most segments.MotorLiability = omega arith
segment-most x = omega arith

pub number-most : (what : Whole) → number_of_whole what ≤ 153
number-most wholes.Assets = omega arith
number-most what =
    omega (
      arith,
      direction-place-most,
      measure-place-most,
      equities-place-most,
      risk-place-most,
      scenario-place-most,
      scenarios-from-most,
      choice-place-most,
      charge-place-most,
      set-place-most,
      segment-most,
      first-step-most,
      operational-place-most,
      adjustment-place-most,
      class-place-most,
    )

-- ---- from a number back to the figure

-- the figure stands at the place that is its number
abbrev pub IsAt : Whole → Type 0
IsAt what = slice_get whole_nodes (number_of_whole what) ≡ Some (nodes.Whole what)

pub whole-at : (what : Whole) → whole_lives what ≡ true → IsAt what
whole-at (wholes.ClassSum classes.Type1Equity) h = refl
whole-at (wholes.EquityPart equities.Type1) h = refl
whole-at (wholes.InterestScenario Up Gross) h = refl
whole-at (wholes.Choice alternatives.Interest) h = refl
whole-at (wholes.Picked alternatives.Interest Gross) h = refl
whole-at (wholes.NetPart risks.Equity) h = refl
whole-at (wholes.Currency Gross) h = refl
whole-at (wholes.Market Gross) h = refl
whole-at (wholes.ClassLoss default_classes.Step0) h = refl
whole-at (wholes.ClassSquare default_classes.Step0) h = refl
whole-at (wholes.BioScenario biometric projections.Base measure) h = absurd (cc)
whole-at (wholes.BioScenario biometrics.Health projections.Catastrophe measure) h = absurd (cc)
whole-at (wholes.BioScenario biometrics.Life projections.Mortality Gross) h = refl
whole-at (wholes.Life Gross) h = refl
whole-at (wholes.Slt Gross) h = refl
whole-at (wholes.Segment segments.MotorLiability) h = refl
whole-at (wholes.CatCharge cats.Windstorm) h = refl
whole-at (wholes.Lapse sets.Nl) h = refl
whole-at (wholes.PremiumReserve sets.Nl) h = refl
whole-at (wholes.Nslt Gross) h = refl
whole-at (wholes.Health Gross) h = refl
whole-at (wholes.Nonlife Gross) h = refl
whole-at (wholes.Bscr Gross) h = refl
whole-at (wholes.OpPart operations.Premiums) h = refl
whole-at (wholes.Adjust adjustments.TechnicalProvisions) h = refl
whole-at (wholes.InterestScenario Down Gross) h = refl
whole-at (wholes.Picked alternatives.LifeLapse Gross) h = refl
whole-at (wholes.Picked alternatives.HealthLapse Gross) h = refl
whole-at (wholes.BioScenario biometrics.Life projections.Longevity Gross) h = refl
whole-at (wholes.BioScenario biometrics.Life projections.Disability Gross) h = refl
whole-at (wholes.BioScenario biometrics.Life projections.Expense Gross) h = refl
whole-at (wholes.BioScenario biometrics.Life projections.Revision Gross) h = refl
whole-at (wholes.BioScenario biometrics.Life projections.LapseUp Gross) h = refl
whole-at (wholes.BioScenario biometrics.Life projections.LapseDown Gross) h = refl
whole-at (wholes.BioScenario biometrics.Life projections.LapseMass Gross) h = refl
whole-at (wholes.BioScenario biometrics.Life projections.Catastrophe Gross) h = refl
whole-at (wholes.BioScenario biometrics.Health projections.Mortality Gross) h = refl
whole-at (wholes.BioScenario biometrics.Health projections.Longevity Gross) h = refl
whole-at (wholes.BioScenario biometrics.Health projections.Disability Gross) h = refl
whole-at (wholes.BioScenario biometrics.Health projections.Expense Gross) h = refl
whole-at (wholes.BioScenario biometrics.Health projections.Revision Gross) h = refl
whole-at (wholes.BioScenario biometrics.Health projections.LapseUp Gross) h = refl
whole-at (wholes.BioScenario biometrics.Health projections.LapseDown Gross) h = refl
whole-at (wholes.BioScenario biometrics.Health projections.LapseMass Gross) h = refl
whole-at what h = refl
