-- The rules of biometric stresses fit for a valid balance sheet.
use Rattle.std.proofs.Common.{◌≡◌, ℕ, ◌≤◌, Bool, true, false, ◌&&◌, List, [], map, refl, sym, subst, Some, None, Option, arith}
use Rattle.std.specs.Option.{option_map_or}
use Rattle.std.proofs.lemmas.Bool.{true≢false}
use Rattle.scr_num.specs.Rounding.{Ends}
use Rattle.scr_factors.specs.Values.{FactorValues}
use Rattle.scr_sheet.specs.CashFlows.{flows_under}
use Rattle.scr_sheet.specs.Validity.{Valid}
use Rattle.scr_sheet.specs.declared.{keys.AbsorbKey.AbsorbKey, keys.Projection.Projection, rows.Liability.Liability, sheet.BalanceSheet.BalanceSheet}
use Rattle.scr_sheet.specs.Absorptions.{absorbed}
use Rattle.scr_sheet.proofs.Amounts.{absorbed-within}
use Rattle.scr_profile.specs.declared.limits.TheConstants.{MAX_AMOUNT}
use Rattle.scr_nodes.specs.declared.node.Alternatives.TheVariants as alternatives
use Rattle.scr_nodes.specs.declared.{node.Biometric.Biometric, node.Measure.Measure, node.Node.Node}
use Rattle.scr_nodes.specs.declared.node.Measure.TheVariants as measures
use Rattle.scr_nodes.specs.declared.node.Node.TheVariants as nodes
use Rattle.scr_nodes.specs.declared.node.OfLiability.TheVariants as of_liabilities
use Rattle.scr_nodes.specs.declared.node.Whole.TheVariants as wholes
use Rattle.scr_nodes.specs.Live.{is_live}
use Rattle.scr_nodes.specs.Own.{Valued}
use Rattle.scr_nodes.specs.OwnOf.{own_of, valued, stress_key, stress_absorbed}
use Rattle.scr_nodes.specs.Rows.{has_flows, is_stress, liability_of}
use Rattle.scr_nodes.specs.Sources.{sources_of, life_parts, slt_parts}
use Rattle.scr_rules.specs.Fits.{Fits}
use Rattle.scr_rules.specs.LifeFits.{FitsExcess}
use Rattle.scr_rules.specs.Worked.{worked}
use Rattle.scr_rules.proofs.LifeSizes.{most_of_scenario, excess-fits, losses-together, stress-amount, life-amounts, slt-amounts, lows-of, highs-of}

-- a liability with flows under a stress is one
pub stressed-there : (stress : Bool) (projection : Projection) (found : Option Liability) → (stress && option_map_or (has_flows projection) found false) ≡ true
    → (l : Liability) × (found ≡ Some l)
stressed-there false projection found h = absurd (true≢false (sym h))
stressed-there true projection None h = absurd (true≢false (sym h))
stressed-there true projection (Some l) h = (l, refl)

module _ (factors : FactorValues) (sheet : BalanceSheet) (valid : Valid sheet) where
  abbrev figure : Node → Ends
  figure node = worked factors sheet node

  abbrev NodeFits : Node → Type 0
  NodeFits node = Fits (own_of factors sheet node) (map figure (sources_of sheet node))

  pub loss-fits : (name : List ℕ) (projection : Projection) → is_live sheet (nodes.Liability name (of_liabilities.Loss projection)) ≡ true → NodeFits (nodes.Liability name (of_liabilities.Loss projection))
  loss-fits name projection live =
      let l = stressed-there (is_stress projection) projection (liability_of name sheet.liabilities) live in
      let none : Valued = record { asof = sheet.numbers.asof.number; payments = []; rates = [] } in
      subst (λ found. FitsExcess (option_map_or (valued sheet) found none) (option_map_or (λ liability. flows_under projection liability.flows) found [])) (sym l.1)
      (excess-fits sheet valid projection name l.0 l.1)

  -- what is absorbed of a stress is an amount
  pub stress-absorbed : (biometric : Biometric) (projection : Projection) → stress_absorbed sheet biometric projection ≤ MAX_AMOUNT
  stress-absorbed biometric projection = by (stress_key biometric projection)
    where
      by : (key : Option AbsorbKey) → option_map_or (λ k. absorbed k sheet.numbers) key 0 ≤ MAX_AMOUNT
      by None = omega arith
      by (Some key) = absorbed-within key sheet.numbers valid.numbers.absorb

  pub stress-fits : (biometric : Biometric) (projection : Projection) (measure : Measure) → NodeFits (nodes.Whole (wholes.BioScenario biometric projection measure))
  stress-fits biometric projection measures.Gross = losses-together factors sheet valid biometric projection
  stress-fits biometric projection measures.Net =
      let gross = stress-amount factors sheet valid biometric projection measures.Gross in
      record { absorbed = stress-absorbed biometric projection; gross = record { low = omega (arith, gross.low_size); high = omega (arith, gross.high_size) } }

  pub life_choice-fits : NodeFits (nodes.Whole (wholes.Choice alternatives.LifeLapse))
  life_choice-fits = record { some = omega arith; few = omega arith }

  pub health_choice-fits : NodeFits (nodes.Whole (wholes.Choice alternatives.HealthLapse))
  health_choice-fits = record { some = omega arith; few = omega arith }

  pub life_picked-fits : (measure : Measure) → NodeFits (nodes.Whole (wholes.Picked alternatives.LifeLapse measure))
  life_picked-fits measure = record { some = omega arith; few = omega arith }

  pub health_picked-fits : (measure : Measure) → NodeFits (nodes.Whole (wholes.Picked alternatives.HealthLapse measure))
  health_picked-fits measure = record { some = omega arith; few = omega arith }

  pub life-fits : (measure : Measure) → NodeFits (nodes.Whole (wholes.Life measure))
  life-fits measure =
      let all = life-amounts factors sheet valid measure in
      let highs = highs-of most_of_scenario (map figure (life_parts measure)) all in
      record { lows = lows-of most_of_scenario (map figure (life_parts measure)) all; highs = omega (arith, highs) }

  pub slt-fits : (measure : Measure) → NodeFits (nodes.Whole (wholes.Slt measure))
  slt-fits measure =
      let all = slt-amounts factors sheet valid measure in
      let highs = highs-of most_of_scenario (map figure (slt_parts measure)) all in
      record { lows = lows-of most_of_scenario (map figure (slt_parts measure)) all; highs = omega (arith, highs) }
