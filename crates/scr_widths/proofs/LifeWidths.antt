-- How far apart the worked figures of biometric stresses, of life risk and of health risk similar to life are.
use Rattle.std.proofs.Common.{◌≡◌, ◌∙◌, ℕ, ◌+◌, ◌*◌, ◌≤◌, ℤ, Bool, true, List, [], ◌∷◌, map, filter, sum_by, unsigned_abs, pos, refl, sym, subst, Some, if◌then◌else◌, arith, lit<, lit≤}
use Rattle.std.specs.List.{AllByRecursion}
use Rattle.std.proofs.lemmas.List.Sums.{sum_by-cons, sum_by-le-sum_by}
use Rattle.scr_num.specs.Narrow.{IsNarrow}
use Rattle.scr_num.specs.Rounding.{Ends, exact_ends}
use Rattle.scr_num.specs.Sums.{sum_ends}
use Rattle.scr_num.proofs.Spreads.{narrow-wider, narrow-scale, narrow-max}
use Rattle.scr_agg.specs.Unbeaten.{Alternative, HasSeveral, mask_of}
use Rattle.scr_agg.proofs.ChoiceWidths.{narrow-chosen_gross, narrow-chosen_net}
use Rattle.scr_agg.proofs.RootWidths.{narrow-life, narrow-slt}
use Rattle.scr_yield_curve.specs.DiscountEnds.{table_ends}
use Rattle.scr_yield_curve.specs.Parts.{IsCurveInMillionths, rates_in_parts}
use Rattle.scr_yield_curve.specs.declared.tilt.Tilt.TheVariants as tilts
use Rattle.scr_dates.specs.declared.day.Day.{Day}
use Rattle.scr_flow.specs.Due.{due_in}
use Rattle.scr_flow.proofs.SizeLemmas.{dues-within}
use Rattle.scr_flow.proofs.WidthLemmas.{narrow-present}
use Rattle.scr_factors.specs.Values.{FactorValues}
use Rattle.scr_funds.proofs.SumsBy.{sum_by-add}
use Rattle.scr_tables.proofs.TableRows.{All-map}
use Rattle.scr_sheet.specs.BalanceSheet.{liability_name}
use Rattle.scr_sheet.specs.CashFlows.{flows_under, total}
use Rattle.scr_sheet.specs.Validity.{Valid}
use Rattle.scr_sheet.specs.declared.{keys.Projection.Projection, rows.Liability.Liability, sheet.BalanceSheet.BalanceSheet}
use Rattle.scr_sheet.specs.declared.keys.Projection.TheVariants as projections
use Rattle.scr_nodes.specs.declared.node.Alternatives.TheVariants as alternatives
use Rattle.scr_nodes.specs.declared.{node.Biometric.Biometric, node.Measure.Measure, node.Node.Node}
use Rattle.scr_nodes.specs.declared.node.Biometric.TheVariants as biometrics
use Rattle.scr_nodes.specs.declared.node.Measure.TheVariants as measures
use Rattle.scr_nodes.specs.declared.node.Node.TheVariants as nodes
use Rattle.scr_nodes.specs.declared.node.OfLiability.TheVariants as of_liabilities
use Rattle.scr_nodes.specs.declared.node.Whole.TheVariants as wholes
use Rattle.scr_nodes.specs.OwnOf.{stress_absorbed}
use Rattle.scr_nodes.specs.Rows.{is_stressed, liability_of, rates_of}
use Rattle.scr_nodes.specs.Sources.{liability_loss, life_parts, losses_under, slt_parts}
use Rattle.scr_nodes.proofs.OwnRows.{own-liabilities}
use Rattle.scr_discounts.specs.Discounts.{discounts_at}
use Rattle.scr_rules.specs.Alternatives.{lapse_alternatives}
use Rattle.scr_rules.specs.LifeRules.{excess_dues, excess_ends}
use Rattle.scr_rules.specs.Rules.{amount_of}
use Rattle.scr_rules.specs.Worked.{worked}
use Rattle.scr_rules.proofs.Equations.{worked-equation}
use Rattle.scr_rules.proofs.ExcessValues.{apart-small}
use Rattle.scr_rules.proofs.LifeSizes.{excess-fits, excess-worked, most_of_scenario, stress-worked, net-worked, life-amounts, slt-amounts, life-worked, slt-worked}
use Rattle.scr_rules.proofs.MarketSums.{all-times}
use Rattle.scr_widths.specs.Widths.{life_width, payments_width, scale_of, slt_width}
use Rattle.scr_widths.proofs.Cleared.{Clear, clear-choice, clear-sources, not-several}
use Rattle.scr_widths.proofs.InterestWidths.{narrow-discounts_at}
use Rattle.scr_widths.proofs.Loads.{flows-loaded}
use Rattle.scr_widths.proofs.SumWidths.{narrow-number, narrow-net, narrow-rows, at-most}

-- by how much payments are worth more under a stress
narrow-excess : (asof : ℤ) (stressed base : List (Day × ℤ)) (rates : List ℤ) → IsCurveInMillionths rates
    → IsNarrow (548 * (total stressed + total base))
    (excess_ends (record { asof = asof; payments = base; rates = rates }) stressed (discounts_at rates))
unfolding excess_ends discounts_at
narrow-excess asof stressed base rates curve =
    let flows = excess_dues asof stressed base in
    narrow-max (548 * (total stressed + total base)) _ (exact_ends (pos 0))
    (narrow-wider (548 * sum_by unsigned_abs flows) (548 * (total stressed + total base)) _
    (omega (arith, apart-small (due_in asof stressed) (due_in asof base) 1 100, dues-within asof stressed, dues-within asof base))
    (narrow-present 548 flows (table_ends (rates_in_parts rates tilts.Base)) (narrow-discounts_at rates tilts.Base curve)))
    (narrow-number (548 * (total stressed + total base)) 0)

module _ (factors : FactorValues) (sheet : BalanceSheet) (valid : Valid sheet) where
  abbrev figure : Node → Ends
  figure node = worked factors sheet node

  -- ---- one liability, and all of a kind
  abbrev loss_width : Projection → Liability → ℕ
  loss_width projection l = 548 * (total (flows_under projection l.flows) + total l.flows.base)

  loss-narrow : (projection : Projection) (name : List ℕ) (l : Liability) → liability_of name sheet.liabilities ≡ Some l
      → IsNarrow (loss_width projection l) (figure (nodes.Liability name (of_liabilities.Loss projection)))
  loss-narrow projection name l is =
      let fits = excess-fits sheet valid projection name l is in
      subst (IsNarrow (loss_width projection l)) (sym (excess-worked factors sheet valid projection name l is))
      (narrow-excess sheet.numbers.asof.number (flows_under projection l.flows) l.flows.base (rates_of l.currency sheet) fits.rates)

  abbrev stress_width : Biometric → Projection → ℕ
  stress_width biometric projection = sum_by (λ l. if is_stressed biometric projection l then loss_width projection l else 0) sheet.liabilities

  losses-narrow : (biometric : Biometric) (projection : Projection)
      → IsNarrow (stress_width biometric projection) (sum_ends (map figure (losses_under biometric projection sheet)))
  losses-narrow biometric projection =
      narrow-rows figure (liability_loss projection) (is_stressed biometric projection) (loss_width projection) sheet.liabilities
      (All-map (λ l. liability_of (liability_name l) sheet.liabilities ≡ Some l) _ sheet.liabilities
      (λ l own e. loss-narrow projection (liability_name l) l own) (own-liabilities sheet valid))

  abbrev multiple : ℕ
  multiple = (scale_of sheet).multiple

  stress-within : (biometric : Biometric) (projection : Projection) → stress_width biometric projection ≤ 11 * multiple * 1_000_000_000_000_000
  stress-within biometric projection =
      let some = sum_by-le-sum_by (λ (l : Liability). if is_stressed biometric projection l then loss_width projection l else 0) (loss_width projection) sheet.liabilities
      (λ l. at-most (is_stressed biometric projection l) (loss_width projection l)) in
      let all = all-times 548 (λ (l : Liability). total (flows_under projection l.flows) + total l.flows.base) sheet.liabilities in
      let parts = sum_by-add (λ (l : Liability). total (flows_under projection l.flows)) (λ (l : Liability). total l.flows.base) sheet.liabilities in
      omega (arith, some, all, parts, flows-loaded sheet projection, flows-loaded sheet projections.Base)

  gross-narrow : (biometric : Biometric) (projection : Projection)
      → IsNarrow (payments_width (scale_of sheet)) (figure (nodes.Whole (wholes.BioScenario biometric projection measures.Gross)))
  gross-narrow biometric projection =
      subst (IsNarrow (payments_width (scale_of sheet))) (sym (stress-worked factors sheet valid biometric projection))
      (narrow-wider (11 * multiple + 1) (payments_width (scale_of sheet)) _ (omega arith)
      (narrow-scale (stress_width biometric projection) (11 * multiple) 1 1_000_000_000_000_000
      (sum_ends (map figure (losses_under biometric projection sheet))) (lit< tt)
      (let all = stress-within biometric projection in omega (arith, all)) (losses-narrow biometric projection)))

  pub stress-narrow : (biometric : Biometric) (projection : Projection) (measure : Measure)
      → IsNarrow (payments_width (scale_of sheet)) (figure (nodes.Whole (wholes.BioScenario biometric projection measure)))
  stress-narrow biometric projection measures.Gross = gross-narrow biometric projection
  stress-narrow biometric projection measures.Net =
      subst (IsNarrow (payments_width (scale_of sheet))) (sym (net-worked factors sheet valid biometric projection))
      (narrow-net (payments_width (scale_of sheet)) (stress_absorbed sheet biometric projection)
      (figure (nodes.Whole (wholes.BioScenario biometric projection measures.Gross))) (gross-narrow biometric projection))

  -- ---- lapses
  pub lapses-gross : (biometric : Biometric)
      → AllByRecursion (λ (a : Alternative). IsNarrow (payments_width (scale_of sheet)) a.gross) (lapse_alternatives (worked factors sheet) biometric)
  lapses-gross biometric =
      (stress-narrow biometric projections.LapseUp measures.Gross, (stress-narrow biometric projections.LapseDown measures.Gross, (stress-narrow biometric projections.LapseMass measures.Gross, tt)))

  pub lapses-net : (biometric : Biometric)
      → AllByRecursion (λ (a : Alternative). IsNarrow (payments_width (scale_of sheet)) a.net) (lapse_alternatives (worked factors sheet) biometric)
  lapses-net biometric =
      (stress-narrow biometric projections.LapseUp measures.Net, (stress-narrow biometric projections.LapseDown measures.Net, (stress-narrow biometric projections.LapseMass measures.Net, tt)))

  life-one : Clear factors sheet valid (nodes.Whole (wholes.Choice alternatives.LifeLapse))
      → HasSeveral (mask_of (lapse_alternatives (worked factors sheet) biometrics.Life)) → ⊥
  life-one clear =
      subst (λ (e : Ends). HasSeveral (amount_of e) → ⊥)
      (worked-equation factors sheet valid (nodes.Whole (wholes.Choice alternatives.LifeLapse)))
      (not-several (figure (nodes.Whole (wholes.Choice alternatives.LifeLapse)))
      (clear-choice factors sheet valid (nodes.Whole (wholes.Choice alternatives.LifeLapse)) clear))

  health-one : Clear factors sheet valid (nodes.Whole (wholes.Choice alternatives.HealthLapse))
      → HasSeveral (mask_of (lapse_alternatives (worked factors sheet) biometrics.Health)) → ⊥
  health-one clear =
      subst (λ (e : Ends). HasSeveral (amount_of e) → ⊥)
      (worked-equation factors sheet valid (nodes.Whole (wholes.Choice alternatives.HealthLapse)))
      (not-several (figure (nodes.Whole (wholes.Choice alternatives.HealthLapse)))
      (clear-choice factors sheet valid (nodes.Whole (wholes.Choice alternatives.HealthLapse)) clear))

  pub life_lapse-narrow : (measure : Measure) → Clear factors sheet valid (nodes.Whole (wholes.Picked alternatives.LifeLapse measure))
      → IsNarrow (payments_width (scale_of sheet)) (figure (nodes.Whole (wholes.Picked alternatives.LifeLapse measure)))
  life_lapse-narrow measures.Gross clear =
      let below = clear-sources factors sheet valid (nodes.Whole (wholes.Picked alternatives.LifeLapse measures.Gross)) clear in
      subst (IsNarrow (payments_width (scale_of sheet)))
      (sym (worked-equation factors sheet valid (nodes.Whole (wholes.Picked alternatives.LifeLapse measures.Gross))))
      (narrow-chosen_gross (payments_width (scale_of sheet)) (lapse_alternatives (worked factors sheet) biometrics.Life) (lapses-gross biometrics.Life)
      (life-one below.1.1.1.1.1.1.0))
  life_lapse-narrow measures.Net clear =
      subst (IsNarrow (payments_width (scale_of sheet)))
      (sym (worked-equation factors sheet valid (nodes.Whole (wholes.Picked alternatives.LifeLapse measures.Net))))
      (narrow-chosen_net (payments_width (scale_of sheet)) (lapse_alternatives (worked factors sheet) biometrics.Life) (lapses-net biometrics.Life))

  pub health_lapse-narrow : (measure : Measure) → Clear factors sheet valid (nodes.Whole (wholes.Picked alternatives.HealthLapse measure))
      → IsNarrow (payments_width (scale_of sheet)) (figure (nodes.Whole (wholes.Picked alternatives.HealthLapse measure)))
  health_lapse-narrow measures.Gross clear =
      let below = clear-sources factors sheet valid (nodes.Whole (wholes.Picked alternatives.HealthLapse measures.Gross)) clear in
      subst (IsNarrow (payments_width (scale_of sheet)))
      (sym (worked-equation factors sheet valid (nodes.Whole (wholes.Picked alternatives.HealthLapse measures.Gross))))
      (narrow-chosen_gross (payments_width (scale_of sheet)) (lapse_alternatives (worked factors sheet) biometrics.Health) (lapses-gross biometrics.Health)
      (health-one below.1.1.1.1.1.1.0))
  health_lapse-narrow measures.Net clear =
      subst (IsNarrow (payments_width (scale_of sheet)))
      (sym (worked-equation factors sheet valid (nodes.Whole (wholes.Picked alternatives.HealthLapse measures.Net))))
      (narrow-chosen_net (payments_width (scale_of sheet)) (lapse_alternatives (worked factors sheet) biometrics.Health) (lapses-net biometrics.Health))

  -- ---- the roots
  abbrev one : ℕ
  one = payments_width (scale_of sheet)

  abbrev most : ℕ
  most = 274_000_000_000_000_000

  pub life-narrow : (measure : Measure) → Clear factors sheet valid (nodes.Whole (wholes.Life measure))
      → IsNarrow (life_width (scale_of sheet)) (figure (nodes.Whole (wholes.Life measure)))
  life-narrow measure clear =
      let below = clear-sources factors sheet valid (nodes.Whole (wholes.Life measure)) clear in
      let widths : List ℕ = one ∷ one ∷ one ∷ one ∷ one ∷ one ∷ one ∷ [] in
      let parts = map figure (life_parts measure) in
      subst (IsNarrow (life_width (scale_of sheet))) (sym (life-worked factors sheet valid measure))
      (narrow-wider (7 * sum_by (λ w. w) widths + 1) (life_width (scale_of sheet)) _ (omega arith)
      (narrow-life (most ∷ most ∷ most ∷ most ∷ most ∷ most ∷ most ∷ []) widths parts refl (life-amounts factors sheet valid measure) (
        stress-narrow biometrics.Life projections.Mortality measure,
        (
          stress-narrow biometrics.Life projections.Longevity measure,
          (
            stress-narrow biometrics.Life projections.Disability measure,
            (
              stress-narrow biometrics.Life projections.Expense measure,
              (
                stress-narrow biometrics.Life projections.Revision measure,
                (life_lapse-narrow measure below.1.1.1.1.1.0, (stress-narrow biometrics.Life projections.Catastrophe measure, tt)),
              ),
            ),
          ),
        ),
      )))

  pub slt-narrow : (measure : Measure) → Clear factors sheet valid (nodes.Whole (wholes.Slt measure))
      → IsNarrow (slt_width (scale_of sheet)) (figure (nodes.Whole (wholes.Slt measure)))
  slt-narrow measure clear =
      let below = clear-sources factors sheet valid (nodes.Whole (wholes.Slt measure)) clear in
      let widths : List ℕ = one ∷ one ∷ one ∷ one ∷ one ∷ one ∷ [] in
      let parts = map figure (slt_parts measure) in
      subst (IsNarrow (slt_width (scale_of sheet))) (sym (slt-worked factors sheet valid measure))
      (narrow-wider (7 * sum_by (λ w. w) widths + 1) (slt_width (scale_of sheet)) _ (omega arith)
      (narrow-slt (most ∷ most ∷ most ∷ most ∷ most ∷ most ∷ []) widths parts refl (slt-amounts factors sheet valid measure) (
        stress-narrow biometrics.Health projections.Mortality measure,
        (
          stress-narrow biometrics.Health projections.Longevity measure,
          (
            stress-narrow biometrics.Health projections.Disability measure,
            (
              stress-narrow biometrics.Health projections.Expense measure,
              (stress-narrow biometrics.Health projections.Revision measure, (health_lapse-narrow measure below.1.1.1.1.1.0, tt)),
            ),
          ),
        ),
      )))
