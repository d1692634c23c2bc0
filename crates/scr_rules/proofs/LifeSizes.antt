-- How large the worked figures of biometric stresses are for a valid balance sheet, and what those of one liability enclose.
use Rattle.std.proofs.Common.{◌≡◌, ℕ, ◌+◌, ◌*◌, ◌^◌, ◌≤◌, Bool, true, false, List, [], ◌∷◌, length, map, sum_by, if◌then◌else◌, unsigned_abs, ℤ, pos, negsuc, ◌≤ℤ◌, ap, sym, subst, ◌∙◌, Some, arith}
use Rattle.std.specs.Int.{int_max}
use Rattle.std.specs.List.{AllByRecursion}
use Rattle.std.specs.Option.{option_map_or}
use Rattle.std.proofs.lemmas.Int.{ints, clamps}
use Rattle.std.proofs.lemmas.Nat.{mul-le}
use Rattle.std.proofs.lemmas.List.Elements.{All-from_recursion}
use Rattle.std.proofs.lemmas.List.Sums.{sum_by-cons}
use Rattle.scr_num.specs.Amounts.{IsAmount}
use Rattle.scr_num.specs.Rounding.{Ends, exact_ends, max_ends, or_zero}
use Rattle.scr_num.specs.Sizes.{IsWithin, AreTogether}
use Rattle.scr_num.specs.Sums.{sum_ends}
use Rattle.scr_num.proofs.AmountBounds.{amount-high, amount-wider}
use Rattle.scr_dates.specs.Civil.{IsDay}
use Rattle.scr_dates.specs.declared.day.Day.{Day}
use Rattle.scr_yield_curve.specs.DiscountEnds.{one}
use Rattle.scr_yield_curve.specs.Parts.{IsCurveInMillionths}
use Rattle.scr_yield_curve.specs.declared.table.TheConstants.{MAX_DISCOUNT}
use Rattle.scr_flow.specs.Due.{due_in}
use Rattle.scr_flow.specs.LossEnds.{present_ends}
use Rattle.scr_flow.proofs.SizeLemmas.{dues-within, present-within}
use Rattle.scr_agg.specs.Absorbed.{net_ends}
use Rattle.scr_agg.specs.Unbeaten.{Alternative}
use Rattle.scr_agg.proofs.ChosenAmounts.{amount-net, amount-chosen_gross, amount-chosen_net}
use Rattle.scr_bio.specs.BiometricEnds.{life_ends, slt_ends}
use Rattle.scr_bio.proofs.BiometricBounds.{loss-size}
use Rattle.scr_rate.specs.InterestEnds.{gross_ends}
use Rattle.scr_factors.specs.Values.{FactorValues}
use Rattle.scr_funds.proofs.Members.{each-from_members}
use Rattle.scr_funds.proofs.SplitSums.{sum_by-member}
use Rattle.scr_tables.proofs.TableRows.{All-map, All-row_of}
use Rattle.scr_sheet.specs.BalanceSheet.{liability_name}
use Rattle.scr_sheet.specs.CashFlows.{flows_under, greatest_years, total, all_projections}
use Rattle.scr_sheet.specs.Validity.{Valid}
use Rattle.scr_sheet.specs.declared.{keys.Projection.Projection, rows.Liability.Liability, sheet.BalanceSheet.BalanceSheet}
use Rattle.scr_sheet.specs.declared.keys.Projection.TheVariants as projections
use Rattle.scr_sheet.proofs.Greatest.{each-le}
use Rattle.scr_sheet.proofs.Projections.{each_projection}
use Rattle.scr_nodes.specs.declared.node.Alternatives.TheVariants as alternatives
use Rattle.scr_nodes.specs.declared.{node.Biometric.Biometric, node.Measure.Measure, node.Node.Node}
use Rattle.scr_nodes.specs.declared.node.Biometric.TheVariants as biometrics
use Rattle.scr_nodes.specs.declared.node.Direction.TheVariants as directions
use Rattle.scr_nodes.specs.declared.node.Measure.TheVariants as measures
use Rattle.scr_nodes.specs.declared.node.Node.TheVariants as nodes
use Rattle.scr_nodes.specs.declared.node.OfLiability.TheVariants as of_liabilities
use Rattle.scr_nodes.specs.declared.node.Whole.TheVariants as wholes
use Rattle.scr_nodes.specs.Own.{Valued}
use Rattle.scr_nodes.specs.OwnOf.{valued, stress_absorbed}
use Rattle.scr_nodes.specs.Rows.{liability_of, rates_of, is_stressed}
use Rattle.scr_nodes.specs.Sources.{liability_loss, losses_under, life_parts, slt_parts}
use Rattle.scr_nodes.proofs.OwnRows.{own-liabilities}
use Rattle.scr_discounts.specs.Discounts.{discounts_at}
use Rattle.scr_rules.specs.LifeFits.{AreSortable, FitsExcess}
use Rattle.scr_rules.specs.RootFits.{AreNotNegative, high_total}
use Rattle.scr_rules.specs.LifeRules.{excess_dues, excess_ends}
use Rattle.scr_rules.specs.Worked.{worked}
use Rattle.scr_rules.proofs.Equations.{worked-equation}
use Rattle.scr_rules.proofs.ExcessValues.{apart-small}
use Rattle.scr_rules.proofs.Gathered.{rows-together, together-wider}
use Rattle.scr_discounts.proofs.CurveRows.{at-rates}
use Rattle.scr_rules.proofs.Payments.{are-near, liability-known, liability-fits}
use Rattle.scr_rules.proofs.PaymentsEnclosed.{difference-encloses}
use Rattle.scr_rules.proofs.RowAmounts.{amount-within, enclosed-ordered, rows-amount}

-- the most that a scenario costs, in grains
abbrev pub most_of_scenario : ℕ
most_of_scenario = 274_000_000_000_000_000

-- what counts of ends in order is an amount
cut-amount : (most : ℕ) (e : Ends) → e.low ≤ℤ e.high → IsWithin most e → IsAmount most (max_ends e (exact_ends (pos 0)))
cut-amount most e order h = record {
  not_negative = low e.low;
  ordered = both e.low e.high order;
  low_size = size e.low h.low;
  high_size = size e.high h.high;
}
  where
    low : (z : ℤ) → pos 0 ≤ℤ int_max z (pos 0)
    low z = omega (arith, ints, clamps)

    both : (z w : ℤ) → z ≤ℤ w → int_max z (pos 0) ≤ℤ int_max w (pos 0)
    both z w le = omega (arith, ints, clamps, le)

    size : (z : ℤ) → unsigned_abs z ≤ most → unsigned_abs (int_max z (pos 0)) ≤ most
    size z le = omega (arith, ints, clamps, le)

-- ---- amounts under a root
pub high-part : (most : ℕ) (e : Ends) → IsAmount most e → or_zero e.high ≤ most
high-part most e h = by e.high (amount-high most e h)
  where
    by : (z : ℤ) → z ≤ℤ pos most → or_zero z ≤ most
    by (pos n) le = omega (arith, ints, le)
    by (negsuc n) le = omega arith

pub lows-of : (most : ℕ) (es : List Ends) → AllByRecursion (IsAmount most) es → AreNotNegative es
lows-of most [] all = tt
lows-of most (e ∷ es) all = (all.0.not_negative, lows-of most es all.1)

pub highs-of : (most : ℕ) (es : List Ends) → AllByRecursion (IsAmount most) es → high_total es ≤ length es * most
highs-of most [] all = omega arith
highs-of most (e ∷ es) all = let own = high-part most e all.0 in omega (arith, own, highs-of most es all.1)

-- ---- payments under a stress
module _ (sheet : BalanceSheet) (valid : Valid sheet) (projection : Projection) where
  abbrev stressed_flows : Liability → List (Day × ℤ)
  stressed_flows l = flows_under projection l.flows

  small-flows : AllByRecursion (λ l. total (flows_under projection l.flows) ≤ 50_000_000_000_000) sheet.liabilities
  small-flows = each-from_members (λ l. total (flows_under projection l.flows) ≤ 50_000_000_000_000) sheet.liabilities (λ l m.
      let all = valid.within.liability_flows projection in
      let own = sum_by-member (λ (q : Liability). total (flows_under projection q.flows)) sheet.liabilities l m in
      omega (arith, all, own))

  pub sortable : (name : List ℕ) (l : Liability) → liability_of name sheet.liabilities ≡ Some l → AreSortable sheet.numbers.asof.number (flows_under projection l.flows)
  sortable name l is =
      let known = liability-known sheet valid name l is in
      let years = each_projection (λ q. greatest_years sheet.numbers.asof.number (flows_under q l.flows) ≤ 100)
      (each-le (λ q. greatest_years sheet.numbers.asof.number (flows_under q l.flows)) 100 all_projections known.years) projection in
      record {
        days = All-from_recursion (λ payment. IsDay payment.0.number) (flows_under projection l.flows) (known.formed.3 projection).0;
        near = are-near sheet.numbers.asof.number (flows_under projection l.flows) years;
        small = All-row_of liability_name (λ q. total (flows_under projection q.flows) ≤ 50_000_000_000_000) name sheet.liabilities l is small-flows;
      }

pub excess-fits : (sheet : BalanceSheet) (valid : Valid sheet) (projection : Projection) (name : List ℕ) (l : Liability) → liability_of name sheet.liabilities ≡ Some l
    → FitsExcess (valued sheet l) (flows_under projection l.flows)
excess-fits sheet valid projection name l is =
    let paid = liability-fits sheet valid directions.Up l (liability-known sheet valid name l is) in
    record {
      asof = valid.numbers.asof;
      base = sortable sheet valid projections.Base name l is;
      stressed_flows = sortable sheet valid projection name l is;
      rates = paid.rates;
      count = paid.count;
    }

-- ---- one liability
module _ (asof : ℤ) (stressed base : List (Day × ℤ)) (rates : List ℤ) (curve : IsCurveInMillionths rates) where
  abbrev difference : Ends
  difference = present_ends (excess_dues asof stressed base) (discounts_at rates).base

  difference-within : IsWithin (MAX_DISCOUNT * (total stressed + total base)) difference
  difference-within =
      let table = (at-rates rates curve).base in
      let h = present-within (excess_dues asof stressed base) (discounts_at rates).base table.in_range in
      let few = mul-le MAX_DISCOUNT (sum_by unsigned_abs (excess_dues asof stressed base)) MAX_DISCOUNT (total stressed + total base) (omega arith)
      (omega (arith, apart-small (due_in asof stressed) (due_in asof base) 1 100, dues-within asof stressed, dues-within asof base)) in
      record { low = omega (arith, h.low, few); high = omega (arith, h.high, few) }

module _ (factors : FactorValues) (sheet : BalanceSheet) (valid : Valid sheet) where
  abbrev figure : Node → Ends
  figure node = worked factors sheet node

  abbrev pub excess_of : Projection → Liability → Ends
  excess_of projection l = excess_ends (valued sheet l) (flows_under projection l.flows) (discounts_at (rates_of l.currency sheet))

  abbrev nothing_valued : Valued
  nothing_valued = record { asof = sheet.numbers.asof.number; payments = []; rates = [] }

  pub excess-worked : (projection : Projection) (name : List ℕ) (l : Liability) → liability_of name sheet.liabilities ≡ Some l
      → figure (nodes.Liability name (of_liabilities.Loss projection)) ≡ excess_of projection l
  excess-worked projection name l is =
      worked-equation factors sheet valid (nodes.Liability name (of_liabilities.Loss projection))
      ∙ ap (λ found. let v = option_map_or (valued sheet) found nothing_valued in excess_ends v (option_map_or (λ liability. flows_under projection liability.flows) found []) (discounts_at v.rates)) is

  abbrev pub loss_most : Projection → Liability → ℕ
  loss_most projection l = MAX_DISCOUNT * (total (flows_under projection l.flows) + total l.flows.base)

  pub loss-amount : (projection : Projection) (name : List ℕ) (l : Liability) → liability_of name sheet.liabilities ≡ Some l
      → IsAmount (loss_most projection l) (figure (nodes.Liability name (of_liabilities.Loss projection)))
  unfolding excess_ends
  loss-amount projection name l is =
      let fits = excess-fits sheet valid projection name l is in
      let asof = sheet.numbers.asof.number in
      let stressed = flows_under projection l.flows in
      let rates = rates_of l.currency sheet in
      subst (IsAmount (loss_most projection l)) (sym (excess-worked projection name l is))
      (cut-amount (loss_most projection l) _
      (enclosed-ordered _ _ (difference-encloses asof stressed l.flows.base rates (discounts_at rates) (at-rates rates fits.rates).base fits.stressed_flows.near fits.base.near))
      (difference-within asof stressed l.flows.base rates fits.rates))

  -- ---- all liabilities of a kind
  abbrev pub scenario_most : Biometric → Projection → ℕ
  scenario_most biometric projection = sum_by (λ l. if is_stressed biometric projection l then loss_most projection l else 0) sheet.liabilities

  pub at-most : (test : Liability → Bool) (projection : Projection) (ls : List Liability)
      → sum_by (λ l. if test l then loss_most projection l else 0) ls ≤ MAX_DISCOUNT * (sum_by (λ l. total (flows_under projection l.flows)) ls + sum_by (λ l. total l.flows.base) ls)
  at-most test projection [] = omega arith
  at-most test projection (l ∷ ls) =
      let rest = at-most test projection ls in
      let a = sum_by-cons (λ (q : Liability). total (flows_under projection q.flows)) l ls in
      let b = sum_by-cons (λ (q : Liability). total q.flows.base) l ls in
      let own = less (test l) (loss_most projection l) in
      let all = sum_by-cons (λ (q : Liability). if test q then loss_most projection q else 0) l ls in
      omega (arith, rest, a, b, own, all)
    where
      less : (t : Bool) (n : ℕ) → (if t then n else 0) ≤ n
      less true n = omega arith
      less false n = omega arith

  scenario-small : (biometric : Biometric) (projection : Projection) → scenario_most biometric projection ≤ 274_000_000_000_000_000_000_000_000_000_000
  scenario-small biometric projection =
      omega (arith, at-most (is_stressed biometric projection) projection sheet.liabilities, valid.within.liability_flows projection, valid.within.liability_flows projections.Base)

  pub losses-amount : (biometric : Biometric) (projection : Projection) → IsAmount (scenario_most biometric projection) (sum_ends (map figure (losses_under biometric projection sheet)))
  losses-amount biometric projection =
      rows-amount figure (liability_loss projection) (is_stressed biometric projection) (loss_most projection) sheet.liabilities
      (All-map (λ l. liability_of (liability_name l) sheet.liabilities ≡ Some l) _ sheet.liabilities (λ l own e. loss-amount projection (liability_name l) l own) (own-liabilities sheet valid))

  pub losses-together : (biometric : Biometric) (projection : Projection) → AreTogether (10 ^ 33) (map figure (losses_under biometric projection sheet))
  losses-together biometric projection =
      together-wider _ _ _ (let small = scenario-small biometric projection in omega (arith, small))
      (rows-together figure (liability_loss projection) (is_stressed biometric projection) (loss_most projection) sheet.liabilities
      (All-map (λ l. liability_of (liability_name l) sheet.liabilities ≡ Some l) _ sheet.liabilities
      (λ l own e. amount-within (loss_most projection l) _ (loss-amount projection (liability_name l) l own)) (own-liabilities sheet valid)))

  pub stress-worked : (biometric : Biometric) (projection : Projection)
      → figure (nodes.Whole (wholes.BioScenario biometric projection measures.Gross)) ≡ gross_ends (map figure (losses_under biometric projection sheet))
  stress-worked biometric projection = worked-equation factors sheet valid (nodes.Whole (wholes.BioScenario biometric projection measures.Gross))

  pub net-worked : (biometric : Biometric) (projection : Projection)
      → figure (nodes.Whole (wholes.BioScenario biometric projection measures.Net)) ≡ net_ends (figure (nodes.Whole (wholes.BioScenario biometric projection measures.Gross))) (stress_absorbed sheet biometric projection)
  net-worked biometric projection = worked-equation factors sheet valid (nodes.Whole (wholes.BioScenario biometric projection measures.Net))

  gross-amount : (biometric : Biometric) (projection : Projection) → IsAmount most_of_scenario (figure (nodes.Whole (wholes.BioScenario biometric projection measures.Gross)))
  gross-amount biometric projection =
      subst (IsAmount most_of_scenario) (sym (stress-worked biometric projection))
      (loss-size most_of_scenario (sum_ends (map figure (losses_under biometric projection sheet)))
      (amount-wider _ _ (sum_ends (map figure (losses_under biometric projection sheet))) (let small = scenario-small biometric projection in omega (arith, small)) (losses-amount biometric projection)))

  pub stress-amount : (biometric : Biometric) (projection : Projection) (measure : Measure) → IsAmount most_of_scenario (figure (nodes.Whole (wholes.BioScenario biometric projection measure)))
  stress-amount biometric projection measures.Gross = gross-amount biometric projection
  stress-amount biometric projection measures.Net =
      let gross = gross-amount biometric projection in
      let e = figure (nodes.Whole (wholes.BioScenario biometric projection measures.Gross)) in
      subst (IsAmount most_of_scenario) (sym (net-worked biometric projection))
      (amount-net most_of_scenario e (stress_absorbed sheet biometric projection) gross.ordered (amount-high most_of_scenario e gross))

  -- ---- lapses
  abbrev pub alternative_of : Biometric → Projection → Alternative
  alternative_of biometric projection = record { gross = figure (nodes.Whole (wholes.BioScenario biometric projection measures.Gross)); net = figure (nodes.Whole (wholes.BioScenario biometric projection measures.Net)) }

  abbrev pub lapse_alternatives : Biometric → List Alternative
  lapse_alternatives biometric = alternative_of biometric projections.LapseUp ∷ alternative_of biometric projections.LapseDown ∷ alternative_of biometric projections.LapseMass ∷ []

  lapse-amounts : (biometric : Biometric) (measure : Measure) → AllByRecursion (IsAmount most_of_scenario)
      (figure (nodes.Whole (wholes.BioScenario biometric projections.LapseUp measure)) ∷ figure (nodes.Whole (wholes.BioScenario biometric projections.LapseDown measure)) ∷ figure (nodes.Whole (wholes.BioScenario biometric projections.LapseMass measure)) ∷ [])
  lapse-amounts biometric measure =
      (stress-amount biometric projections.LapseUp measure, (stress-amount biometric projections.LapseDown measure, (stress-amount biometric projections.LapseMass measure, tt)))

  pub life_lapse-amount : (measure : Measure) → IsAmount most_of_scenario (figure (nodes.Whole (wholes.Picked alternatives.LifeLapse measure)))
  life_lapse-amount measures.Gross =
      subst (IsAmount most_of_scenario) (sym (worked-equation factors sheet valid (nodes.Whole (wholes.Picked alternatives.LifeLapse measures.Gross))))
      (amount-chosen_gross most_of_scenario (lapse_alternatives biometrics.Life) (lapse-amounts biometrics.Life measures.Gross))
  life_lapse-amount measures.Net =
      subst (IsAmount most_of_scenario) (sym (worked-equation factors sheet valid (nodes.Whole (wholes.Picked alternatives.LifeLapse measures.Net))))
      (amount-chosen_net most_of_scenario (lapse_alternatives biometrics.Life) (lapse-amounts biometrics.Life measures.Net))

  pub health_lapse-amount : (measure : Measure) → IsAmount most_of_scenario (figure (nodes.Whole (wholes.Picked alternatives.HealthLapse measure)))
  health_lapse-amount measures.Gross =
      subst (IsAmount most_of_scenario) (sym (worked-equation factors sheet valid (nodes.Whole (wholes.Picked alternatives.HealthLapse measures.Gross))))
      (amount-chosen_gross most_of_scenario (lapse_alternatives biometrics.Health) (lapse-amounts biometrics.Health measures.Gross))
  health_lapse-amount measures.Net =
      subst (IsAmount most_of_scenario) (sym (worked-equation factors sheet valid (nodes.Whole (wholes.Picked alternatives.HealthLapse measures.Net))))
      (amount-chosen_net most_of_scenario (lapse_alternatives biometrics.Health) (lapse-amounts biometrics.Health measures.Net))

  -- ---- the roots
  pub life-amounts : (measure : Measure) → AllByRecursion (IsAmount most_of_scenario) (map figure (life_parts measure))
  life-amounts measure = (
    stress-amount biometrics.Life projections.Mortality measure,
    (stress-amount biometrics.Life projections.Longevity measure, (stress-amount biometrics.Life projections.Disability measure, (stress-amount biometrics.Life projections.Expense measure, (stress-amount biometrics.Life projections.Revision measure, (life_lapse-amount measure, (stress-amount biometrics.Life projections.Catastrophe measure, tt)))))),
  )

  pub slt-amounts : (measure : Measure) → AllByRecursion (IsAmount most_of_scenario) (map figure (slt_parts measure))
  slt-amounts measure = (
    stress-amount biometrics.Health projections.Mortality measure,
    (stress-amount biometrics.Health projections.Longevity measure, (stress-amount biometrics.Health projections.Disability measure, (stress-amount biometrics.Health projections.Expense measure, (stress-amount biometrics.Health projections.Revision measure, (health_lapse-amount measure, tt))))),
  )

  pub life-worked : (measure : Measure) → figure (nodes.Whole (wholes.Life measure)) ≡ life_ends (map figure (life_parts measure))
  life-worked measure = worked-equation factors sheet valid (nodes.Whole (wholes.Life measure))

  pub slt-worked : (measure : Measure) → figure (nodes.Whole (wholes.Slt measure)) ≡ slt_ends (map figure (slt_parts measure))
  slt-worked measure = worked-equation factors sheet valid (nodes.Whole (wholes.Slt measure))
