-- The alternatives of each choice, by figures before and after absorption (this project's own), and what they come to
-- exactly: the choice of an interest rate scenario, of the change of a currency and of lapses (Articles 142(1), 159(1),
-- 165(1), 188(2) and 206(2) of Delegated Regulation (EU) 2015/35), and that of the band of the standard deviation (Article
-- 200).
use Rattle.std.specs.Prelude.{ℕ, List, [], ◌∷◌}
use Rattle.scr_num.specs.Enclosure.{Encloses}
use Rattle.scr_num.specs.Figure.{Frac}
use Rattle.scr_num.specs.Fraction.{Fraction}
use Rattle.scr_num.specs.Rounding.{Ends}
use Rattle.scr_agg.specs.Choice.{Outcome}
use Rattle.scr_agg.specs.Unbeaten.{Alternative, EncloseOutcomes}
use Rattle.scr_sheet.specs.declared.keys.Projection.TheVariants as projections
use Rattle.scr_nodes.specs.declared.node.Biometric.{Biometric}
use Rattle.scr_nodes.specs.declared.node.Direction.TheVariants as directions
use Rattle.scr_nodes.specs.declared.node.Measure.{Measure}
use Rattle.scr_nodes.specs.declared.node.Measure.TheVariants as measures
use Rattle.scr_nodes.specs.declared.node.Node.{Node}
use Rattle.scr_nodes.specs.declared.node.Node.TheVariants as nodes
use Rattle.scr_nodes.specs.declared.node.OfCurrency.TheVariants as of_currencies
use Rattle.scr_nodes.specs.declared.node.Whole.TheVariants as wholes

module _ (figure : Node → Ends) where
  -- a scenario's figures before and after absorption
  abbrev pub alternative_of : (Measure → Node) → Alternative
  alternative_of scenario = record { gross = figure (scenario measures.Gross); net = figure (scenario measures.Net) }

  -- the rise and the fall of interest rates
  abbrev pub interest_alternatives : List Alternative
  interest_alternatives =
      alternative_of (λ measure. nodes.Whole (wholes.InterestScenario directions.Up measure))
      ∷ alternative_of (λ measure. nodes.Whole (wholes.InterestScenario directions.Down measure)) ∷ []

  -- the rise and the fall of a currency
  abbrev pub currency_alternatives : List ℕ → List Alternative
  currency_alternatives currency =
      alternative_of (λ measure. nodes.Currency currency (of_currencies.Scenario directions.Up measure))
      ∷ alternative_of (λ measure. nodes.Currency currency (of_currencies.Scenario directions.Down measure)) ∷ []

  -- more, fewer and mass lapses
  abbrev pub lapse_alternatives : Biometric → List Alternative
  lapse_alternatives biometric =
      alternative_of (λ measure. nodes.Whole (wholes.BioScenario biometric projections.LapseUp measure))
      ∷ alternative_of (λ measure. nodes.Whole (wholes.BioScenario biometric projections.LapseDown measure))
      ∷ alternative_of (λ measure. nodes.Whole (wholes.BioScenario biometric projections.LapseMass measure)) ∷ []

-- what the alternatives come to exactly, and the variance by which a band of the standard deviation decides, in cents
pub record Outcomes : Type 0 where
  pub interest : List Outcome
  pub change : (currency : List ℕ) → List Outcome
  pub lapses : Biometric → List Outcome
  pub variance : Fraction

-- the figures of the alternatives enclose that
pub record EncloseAlternatives (figure : Node → Ends) (outcomes : Outcomes) : Type 0 where
  pub interest : EncloseOutcomes 1000 (interest_alternatives figure) outcomes.interest
  pub change : (currency : List ℕ) → EncloseOutcomes 1000 (currency_alternatives figure currency) (outcomes.change currency)
  pub lapses : (biometric : Biometric) → EncloseOutcomes 1000 (lapse_alternatives figure biometric) (outcomes.lapses biometric)
  pub variance : Encloses 1_000_000 (figure (nodes.Whole wholes.Variance)).low (figure (nodes.Whole wholes.Variance)).high
      (Frac outcomes.variance)
