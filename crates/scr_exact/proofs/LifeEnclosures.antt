-- The figures of biometric stresses enclose the exact ones, where they cover their rules.
use Rattle.std.proofs.Common.{◌≡◌, ℕ, true, List, [], map, pos, ◌≤ℤ◌, refl, ap, sym, subst, ◌∙◌, Option, Some, lit<}
use Rattle.std.specs.Prelude.{IsBitSet}
use Rattle.std.specs.Option.{option_map_or}
use Rattle.scr_num.specs.Figure.{Figure, Frac}
use Rattle.scr_num.specs.Fraction.{zero_fraction}
use Rattle.scr_num.specs.Enclosure.{Encloses, EncloseAll}
use Rattle.scr_num.specs.Rounding.{Ends}
use Rattle.scr_num.specs.Sums.{sum_ends}
use Rattle.scr_yield_curve.specs.DiscountEnds.{one}
use Rattle.scr_agg.specs.Choice.{chosen, outcome_at}
use Rattle.scr_agg.specs.Unbeaten.{EncloseOutcome, EncloseOutcomes, mask_of}
use Rattle.scr_agg.proofs.Bits.{mask_bits}
use Rattle.scr_agg.proofs.Chosen.{chosen-is}
use Rattle.scr_agg.proofs.ChosenAmounts.{Encloses-counted, Encloses-left}
use Rattle.scr_agg.proofs.Enclosed.{chosen_unbeaten, gross_encloses, net_encloses}
use Rattle.scr_bio.proofs.BiometricBounds as bio
use Rattle.scr_factors.specs.Values.{FactorValues}
use Rattle.scr_tables.proofs.TableRows.{All-map}
use Rattle.scr_sheet.specs.BalanceSheet.{liability_name}
use Rattle.scr_sheet.specs.CashFlows.{flows_under}
use Rattle.scr_sheet.specs.Validity.{Valid}
use Rattle.scr_sheet.specs.declared.{keys.Projection.Projection, rows.Liability.Liability, sheet.BalanceSheet.BalanceSheet}
use Rattle.scr_sheet.specs.declared.keys.Projection.TheVariants as projections
use Rattle.scr_nodes.specs.declared.node.Alternatives.TheVariants as alternatives
use Rattle.scr_nodes.specs.declared.{node.Biometric.Biometric, node.Measure.Measure, node.Node.Node}
use Rattle.scr_nodes.specs.declared.node.Biometric.TheVariants as biometrics
use Rattle.scr_nodes.specs.declared.node.Measure.TheVariants as measures
use Rattle.scr_nodes.specs.declared.node.Node.TheVariants as nodes
use Rattle.scr_nodes.specs.declared.node.OfLiability.TheVariants as of_liabilities
use Rattle.scr_nodes.specs.declared.node.Whole.TheVariants as wholes
use Rattle.scr_nodes.specs.Live.{is_live}
use Rattle.scr_nodes.specs.Own.{Valued}
use Rattle.scr_nodes.specs.OwnOf.{stress_absorbed, valued}
use Rattle.scr_nodes.specs.Rows.{liability_of, rates_of, is_stress, is_stressed}
use Rattle.scr_nodes.specs.Sources.{liability_loss, losses_under, life_parts, slt_parts}
use Rattle.scr_nodes.proofs.OwnRows.{own-liabilities}
use Rattle.scr_exact.specs.Exact.{exact, unit_of}
use Rattle.scr_exact.specs.LifeExact.{stress_loss, stress_total, stress_outcome, lapse_outcomes, lapse_outcome, life_risks, slt_risks, life_exact, slt_exact}
use Rattle.scr_exact.specs.Measured.{measured}
use Rattle.scr_rules.specs.Alternatives.{alternative_of, lapse_alternatives}
use Rattle.scr_rules.specs.LifeRules.{excess_ends}
use Rattle.scr_rules.specs.Rules.{amount_of}
use Rattle.scr_exact.specs.Covering.{AreCovering, AreNotNegative, is_part_of_modules}
use Rattle.scr_exact.proofs.Covered.{covered, due}
use Rattle.scr_rules.proofs.PaymentsEnclosed.{difference-encloses}
use Rattle.scr_rules.proofs.LifeRanges.{stressed-there}
use Rattle.scr_rules.proofs.LifeSizes.{excess-fits}
use Rattle.scr_rules.proofs.RowAmounts.{Enclosed}
use Rattle.scr_exact.proofs.RowsEnclosed.{where-encloses}

abbrev Holds : ℕ → Ends → Figure → Type 0
Holds unit e f = Encloses unit e.low e.high f

module _ (factors : FactorValues) (sheet : BalanceSheet) (valid : Valid sheet) (figure : Node → Ends) (covering : AreCovering factors sheet figure) where
  reaches : (unit : ℕ) (node : Node) (f : Figure) → Holds unit (due factors sheet valid figure covering node) f → Holds unit (figure node) f
  reaches unit node f h = covered factors sheet valid figure covering unit node f h

  abbrev nothing_valued : Valued
  nothing_valued = record { asof = sheet.numbers.asof.number; payments = []; rates = [] }

  -- the figure of a node encloses its exact one, where it has one
  abbrev pub NodeEncloses : Node → Type 0
  NodeEncloses node = (f : Figure) → exact factors sheet node ≡ Some f → Holds (unit_of node) (figure node) f

  told : (unit : ℕ) (e : Ends) (g f : Figure) → Some g ≡ Some f → Holds unit e g → Holds unit e f
  told unit e g f is h = let same : g ≡ f = cc in subst (Holds unit e) same h

  pub loss-encloses : (projection : Projection) (name : List ℕ) (l : Liability) → liability_of name sheet.liabilities ≡ Some l
      → Enclosed one (figure (nodes.Liability name (of_liabilities.Loss projection))) (stress_loss sheet projection l)
  unfolding stress_loss excess_ends
  loss-encloses projection name l is =
      let fits = excess-fits sheet valid projection name l is in
      let row = covering.discounts (nodes.Liability name (of_liabilities.Loss projection)) in
      reaches one (nodes.Liability name (of_liabilities.Loss projection)) (Frac (stress_loss sheet projection l))
      (subst (λ (found : Option Liability). Enclosed one (excess_ends (option_map_or (valued sheet) found nothing_valued) (option_map_or (λ liability. flows_under projection liability.flows) found []) row) (stress_loss sheet projection l))
      (sym is)
      (Encloses-counted one _ _
      (difference-encloses sheet.numbers.asof.number (flows_under projection l.flows) l.flows.base (rates_of l.currency sheet) row (covering.stressed projection name l is).base fits.stressed_flows.near fits.base.near)))

  pub liability-encloses : (name : List ℕ) (projection : Projection) → is_live sheet (nodes.Liability name (of_liabilities.Loss projection)) ≡ true → NodeEncloses (nodes.Liability name (of_liabilities.Loss projection))
  liability-encloses name projection live f is =
      let l = stressed-there (is_stress projection) projection (liability_of name sheet.liabilities) live in
      told one _ _ f (ap (λ found. Some (Frac (option_map_or (stress_loss sheet projection) found zero_fraction))) (sym l.1) ∙ is) (loss-encloses projection name l.0 l.1)

  -- ---- stresses
  total-encloses : (biometric : Biometric) (projection : Projection) → Enclosed one (sum_ends (map figure (losses_under biometric projection sheet))) (stress_total sheet biometric projection)
  unfolding stress_total
  total-encloses biometric projection =
      where-encloses figure (liability_loss projection) (is_stressed biometric projection) one (lit< tt) (stress_loss sheet projection) sheet.liabilities
      (All-map (λ l. liability_of (liability_name l) sheet.liabilities ≡ Some l) _ sheet.liabilities (λ l own e. loss-encloses projection (liability_name l) l own) (own-liabilities sheet valid))

  gross-encloses : (biometric : Biometric) (projection : Projection) → Enclosed 1000 (figure (nodes.Whole (wholes.BioScenario biometric projection measures.Gross))) (stress_total sheet biometric projection)
  gross-encloses biometric projection =
      reaches 1000 (nodes.Whole (wholes.BioScenario biometric projection measures.Gross)) (Frac (stress_total sheet biometric projection))
      (bio.loss-encloses (sum_ends (map figure (losses_under biometric projection sheet))) (Frac (stress_total sheet biometric projection)) (total-encloses biometric projection))

  pub outcome-encloses : (biometric : Biometric) (projection : Projection) → EncloseOutcome 1000 (alternative_of figure (λ measure. nodes.Whole (wholes.BioScenario biometric projection measure))) (stress_outcome sheet biometric projection)
  unfolding stress_outcome
  outcome-encloses biometric projection = record {
    gross = gross-encloses biometric projection;
    net = reaches 1000 (nodes.Whole (wholes.BioScenario biometric projection measures.Net)) (Frac (stress_outcome sheet biometric projection).net)
        (Encloses-left (figure (nodes.Whole (wholes.BioScenario biometric projection measures.Gross))) (stress_absorbed sheet biometric projection) (stress_total sheet biometric projection) (gross-encloses biometric projection));
  }

  stress-encloses : (biometric : Biometric) (projection : Projection) (measure : Measure)
      → Enclosed 1000 (figure (nodes.Whole (wholes.BioScenario biometric projection measure))) (measured measure (stress_outcome sheet biometric projection))
  stress-encloses biometric projection measures.Gross = (outcome-encloses biometric projection).gross
  stress-encloses biometric projection measures.Net = (outcome-encloses biometric projection).net

  pub scenario-encloses : (biometric : Biometric) (projection : Projection) (measure : Measure) → NodeEncloses (nodes.Whole (wholes.BioScenario biometric projection measure))
  scenario-encloses biometric projection measure f is = told 1000 _ _ f is (stress-encloses biometric projection measure)

  -- ---- lapses
  pub lapses-enclose : (biometric : Biometric) → EncloseOutcomes 1000 (lapse_alternatives figure biometric) (lapse_outcomes sheet biometric)
  lapses-enclose biometric = (outcome-encloses biometric projections.LapseUp, (outcome-encloses biometric projections.LapseDown, (outcome-encloses biometric projections.LapseMass, tt)))

  decisive-is : (biometric : Biometric) → lapse_outcome sheet biometric ≡ outcome_at (lapse_outcomes sheet biometric) (chosen (lapse_outcomes sheet biometric))
  unfolding lapse_outcome
  decisive-is biometric = refl

  life_lapse-encloses : (measure : Measure) → Enclosed 1000 (figure (nodes.Whole (wholes.Picked alternatives.LifeLapse measure))) (measured measure (lapse_outcome sheet biometrics.Life))
  life_lapse-encloses measures.Gross =
      reaches 1000 (nodes.Whole (wholes.Picked alternatives.LifeLapse measures.Gross)) (Frac (lapse_outcome sheet biometrics.Life).gross)
      (rw (decisive-is biometrics.Life) (gross_encloses 1000 (lapse_alternatives figure biometrics.Life) (lapse_outcomes sheet biometrics.Life) _ (lapses-enclose biometrics.Life) (chosen-is (lapse_outcomes sheet biometrics.Life) (lit< tt))))
  life_lapse-encloses measures.Net =
      reaches 1000 (nodes.Whole (wholes.Picked alternatives.LifeLapse measures.Net)) (Frac (lapse_outcome sheet biometrics.Life).net)
      (rw (decisive-is biometrics.Life) (net_encloses 1000 (lapse_alternatives figure biometrics.Life) (lapse_outcomes sheet biometrics.Life) _ (lapses-enclose biometrics.Life) (chosen-is (lapse_outcomes sheet biometrics.Life) (lit< tt))))

  health_lapse-encloses : (measure : Measure) → Enclosed 1000 (figure (nodes.Whole (wholes.Picked alternatives.HealthLapse measure))) (measured measure (lapse_outcome sheet biometrics.Health))
  health_lapse-encloses measures.Gross =
      reaches 1000 (nodes.Whole (wholes.Picked alternatives.HealthLapse measures.Gross)) (Frac (lapse_outcome sheet biometrics.Health).gross)
      (rw (decisive-is biometrics.Health) (gross_encloses 1000 (lapse_alternatives figure biometrics.Health) (lapse_outcomes sheet biometrics.Health) _ (lapses-enclose biometrics.Health) (chosen-is (lapse_outcomes sheet biometrics.Health) (lit< tt))))
  health_lapse-encloses measures.Net =
      reaches 1000 (nodes.Whole (wholes.Picked alternatives.HealthLapse measures.Net)) (Frac (lapse_outcome sheet biometrics.Health).net)
      (rw (decisive-is biometrics.Health) (net_encloses 1000 (lapse_alternatives figure biometrics.Health) (lapse_outcomes sheet biometrics.Health) _ (lapses-enclose biometrics.Health) (chosen-is (lapse_outcomes sheet biometrics.Health) (lit< tt))))

  pub life_picked-encloses : (measure : Measure) → NodeEncloses (nodes.Whole (wholes.Picked alternatives.LifeLapse measure))
  life_picked-encloses measure f is = told 1000 _ _ f is (life_lapse-encloses measure)

  pub health_picked-encloses : (measure : Measure) → NodeEncloses (nodes.Whole (wholes.Picked alternatives.HealthLapse measure))
  health_picked-encloses measure f is = told 1000 _ _ f is (health_lapse-encloses measure)

  -- the masks of the choices have the bits of those that decide by the exact requirements
  lapse-bit : (biometric : Biometric) (mask : Ends) → amount_of mask ≡ mask_of (lapse_alternatives figure biometric) → IsBitSet (amount_of mask) (chosen (lapse_outcomes sheet biometric))
  lapse-bit biometric mask is =
      let list = lapse_alternatives figure biometric in
      let outcomes = lapse_outcomes sheet biometric in
      subst (λ (m : ℕ). IsBitSet m (chosen outcomes)) (sym is)
      ((mask_bits list (chosen outcomes) (chosen-is outcomes (lit< tt)).listed).1 (chosen_unbeaten 1000 list outcomes (chosen outcomes) (lapses-enclose biometric) (chosen-is outcomes (lit< tt))))

  pub life_choice-has-decisive : IsBitSet (amount_of (figure (nodes.Whole (wholes.Choice alternatives.LifeLapse)))) (chosen (lapse_outcomes sheet biometrics.Life))
  life_choice-has-decisive = lapse-bit biometrics.Life (figure (nodes.Whole (wholes.Choice alternatives.LifeLapse))) (ap amount_of (covering.choices (nodes.Whole (wholes.Choice alternatives.LifeLapse)) refl))

  pub health_choice-has-decisive : IsBitSet (amount_of (figure (nodes.Whole (wholes.Choice alternatives.HealthLapse)))) (chosen (lapse_outcomes sheet biometrics.Health))
  health_choice-has-decisive = lapse-bit biometrics.Health (figure (nodes.Whole (wholes.Choice alternatives.HealthLapse))) (ap amount_of (covering.choices (nodes.Whole (wholes.Choice alternatives.HealthLapse)) refl))

  -- ---- the roots, where no part is below 0
  module _ (least : AreNotNegative is_part_of_modules figure) where
    stress-low : (biometric : Biometric) (projection : Projection) (measure : Measure) → pos 0 ≤ℤ (figure (nodes.Whole (wholes.BioScenario biometric projection measure))).low
    stress-low biometric projection measure = least (nodes.Whole (wholes.BioScenario biometric projection measure)) refl

    life-all : (measure : Measure) → EncloseAll 1000 (map figure (life_parts measure)) (life_risks sheet measure)
    life-all measure = (
      stress-low biometrics.Life projections.Mortality measure,
      stress-encloses biometrics.Life projections.Mortality measure,
      (stress-low biometrics.Life projections.Longevity measure, stress-encloses biometrics.Life projections.Longevity measure, (stress-low biometrics.Life projections.Disability measure, stress-encloses biometrics.Life projections.Disability measure, (stress-low biometrics.Life projections.Expense measure, stress-encloses biometrics.Life projections.Expense measure, (stress-low biometrics.Life projections.Revision measure, stress-encloses biometrics.Life projections.Revision measure, (least (nodes.Whole (wholes.Picked alternatives.LifeLapse measure)) refl, life_lapse-encloses measure, (stress-low biometrics.Life projections.Catastrophe measure, stress-encloses biometrics.Life projections.Catastrophe measure, tt)))))),
    )

    slt-all : (measure : Measure) → EncloseAll 1000 (map figure (slt_parts measure)) (slt_risks sheet measure)
    slt-all measure = (
      stress-low biometrics.Health projections.Mortality measure,
      stress-encloses biometrics.Health projections.Mortality measure,
      (stress-low biometrics.Health projections.Longevity measure, stress-encloses biometrics.Health projections.Longevity measure, (stress-low biometrics.Health projections.Disability measure, stress-encloses biometrics.Health projections.Disability measure, (stress-low biometrics.Health projections.Expense measure, stress-encloses biometrics.Health projections.Expense measure, (stress-low biometrics.Health projections.Revision measure, stress-encloses biometrics.Health projections.Revision measure, (least (nodes.Whole (wholes.Picked alternatives.HealthLapse measure)) refl, health_lapse-encloses measure, tt))))),
    )

    pub life-encloses : (measure : Measure) → NodeEncloses (nodes.Whole (wholes.Life measure))
    unfolding life_exact
    life-encloses measure f is =
        told 1000 _ _ f is
        (reaches 1000 (nodes.Whole (wholes.Life measure)) (life_exact sheet measure) (bio.life-encloses (map figure (life_parts measure)) (life_risks sheet measure) refl (life-all measure)))

    pub slt-encloses : (measure : Measure) → NodeEncloses (nodes.Whole (wholes.Slt measure))
    unfolding slt_exact
    slt-encloses measure f is =
        told 1000 _ _ f is
        (reaches 1000 (nodes.Whole (wholes.Slt measure)) (slt_exact sheet measure) (bio.slt-encloses (map figure (slt_parts measure)) (slt_risks sheet measure) refl (slt-all measure)))
