-- The figures of market risk, besides those of interest rate and equity risk, enclose the exact ones, where they cover their
-- rules.
use Rattle.std.proofs.Common.{◌≡◌, ℕ, ◌<◌, true, List, [], ◌∷◌, map, filter, pos, ◌≤ℤ◌, refl, ap, ap₂, sym, subst, ◌∙◌, Option, Some, lit<}
use Rattle.std.specs.Prelude.{IsBitSet}
use Rattle.std.specs.List.{AllByRecursion}
use Rattle.std.specs.Option.{option_map_or}
use Rattle.std.proofs.lemmas.Bool.{true≢false}
use Rattle.scr_num.specs.Enclosure.{Encloses, EncloseAll}
use Rattle.scr_num.specs.Figure.{Figure, Frac}
use Rattle.scr_num.specs.Rounding.{Ends, exact_ends}
use Rattle.scr_num.specs.Sums.{sum_ends, parts_of}
use Rattle.scr_num.proofs.Enclosing.{Encloses-exact}
use Rattle.scr_yield_curve.specs.DiscountEnds.{one}
use Rattle.scr_agg.specs.Absorbed.{net_figure}
use Rattle.scr_agg.specs.Choice.{chosen, outcome_at}
use Rattle.scr_agg.specs.Unbeaten.{EncloseOutcome, EncloseOutcomes}
use Rattle.scr_agg.proofs.Bits.{mask_bits}
use Rattle.scr_agg.proofs.Chosen.{chosen-is}
use Rattle.scr_agg.proofs.Enclosed.{chosen_unbeaten, gross_encloses, net_encloses}
use Rattle.scr_agg.proofs.ExactAmounts.{Encloses-net_exact}
use Rattle.scr_agg.proofs.NetAmounts.{Encloses-net}
use Rattle.scr_factors.specs.Values.{FactorValues}
use Rattle.scr_market.specs.Market.{market_figure}
use Rattle.scr_market.specs.Spread.{row_of as factor_row, bond_loss_exact}
use Rattle.scr_market.proofs.CurrencyLemmas.{rise-encloses, fall-encloses}
use Rattle.scr_market.proofs.MarketLemmas.{market-encloses}
use Rattle.scr_market.proofs.PropertyLemmas.{property-encloses}
use Rattle.scr_market.proofs.SpreadLemmas.{bond-encloses, spread-encloses}
use Rattle.scr_conc.specs.Thresholds.{threshold_units, factor_units, threshold_exact, factor_exact}
use Rattle.scr_conc.proofs.Squares.{square-exact, concentration-encloses}
use Rattle.scr_conc.proofs.Table.{threshold-exact, factor-exact}
use Rattle.scr_tables.proofs.TableRows.{All-map, name_of-row_of, same_name-is}
use Rattle.scr_sheet.specs.Absorptions.{absorbed}
use Rattle.scr_sheet.specs.BalanceSheet.{position_name, liability_name, position_of}
use Rattle.scr_sheet.specs.Totals.{total_of}
use Rattle.scr_sheet.specs.Validity.{Valid}
use Rattle.scr_sheet.specs.declared.rows.Class.TheVariants as classes
use Rattle.scr_sheet.specs.declared.{rows.Curve.Curve, rows.Group.Group, rows.Liability.Liability, rows.Position.Position, sheet.BalanceSheet.BalanceSheet}
use Rattle.scr_nodes.specs.declared.node.Alternatives.TheVariants as alternatives
use Rattle.scr_nodes.specs.declared.{node.Direction.Direction, node.Measure.Measure, node.Node.Node, node.Risk.Risk}
use Rattle.scr_nodes.specs.declared.node.Direction.TheVariants as directions
use Rattle.scr_nodes.specs.declared.node.Measure.TheVariants as measures
use Rattle.scr_nodes.specs.declared.node.Node.TheVariants as nodes
use Rattle.scr_nodes.specs.declared.node.OfSecurity.TheVariants as of_securities
use Rattle.scr_nodes.specs.declared.node.OfLiability.TheVariants as of_liabilities
use Rattle.scr_nodes.specs.declared.node.OfCurrency.TheVariants as of_currencies
use Rattle.scr_nodes.specs.declared.node.OfGroup.TheVariants as of_groups
use Rattle.scr_nodes.specs.declared.node.Whole.TheVariants as wholes
use Rattle.scr_nodes.specs.declared.node.Risk.TheVariants as risks
use Rattle.scr_nodes.specs.OwnOf.{currency_absorbed, risk_key, valued}
use Rattle.scr_nodes.specs.Rows.{has_class, is_foreign, is_held_in, is_owed_in, group_of, liability_of, step_of}
use Rattle.scr_nodes.specs.Sources.{currency_picked, gross_of, liability_present, risk_part, security_spread, security_total}
use Rattle.scr_nodes.proofs.OwnRows.{own-securities, own-liabilities}
use Rattle.scr_exact.specs.Measured.{measured, absorbed_part}
use Rattle.scr_rules.specs.Holdings.{class_total, assets_in, group_cents, assets_cents}
use Rattle.scr_exact.specs.MarketExact.{liability_worth, liabilities_in, change_cost, change_outcome, change_outcomes, decisive_change, currency_exact, property_exact, bond_exact, spread_exact, group_square_exact, concentration_exact}
use Rattle.scr_rules.specs.Alternatives.{alternative_of, currency_alternatives}
use Rattle.scr_rules.specs.MarketRules.{foreign_ends, worth_ends}
use Rattle.scr_rules.specs.Rules.{amount_of}
use Rattle.scr_rules.specs.Worked.{worked}
use Rattle.scr_exact.specs.Covering.{AreCovering, AreNotNegative, is_part_of_market, is_risk_of_market}
use Rattle.scr_exact.proofs.Covered.{covered, due, is_leaf, leaf-encloses, number-encloses, numbers-of}
use Rattle.scr_rules.proofs.PaymentsEnclosed.{worth-encloses}
use Rattle.scr_rules.proofs.MarketSizes.{IsMaskOfTwo, held-sum, property-worked, bond-worked, square_cents, square-worked, exposures, concentration-worked}
use Rattle.scr_rules.proofs.WorthsIn.{first-are, held_ends, others-are, owed_ends}
use Rattle.scr_exact.proofs.RowsEnclosed.{where-encloses}
use Rattle.scr_rules.proofs.Payments.{liability-known, liability-fits}

abbrev Holds : ℕ → Ends → Figure → Type 0
Holds unit e f = Encloses unit e.low e.high f

module _ (factors : FactorValues) (sheet : BalanceSheet) (valid : Valid sheet) (figure : Node → Ends) (covering : AreCovering factors sheet figure) where
  -- what the rule of a node gives
  abbrev rule_of : Node → Ends
  rule_of node = due factors sheet valid figure covering node

  reaches : (unit : ℕ) (node : Node) (f : Figure) → Holds unit (rule_of node) f → Holds unit (figure node) f
  reaches unit node f h = covered factors sheet valid figure covering unit node f h

  leaf : (unit : ℕ) (node : Node) (f : Figure) → is_leaf node ≡ true → Holds unit (worked factors sheet node) f → Holds unit (figure node) f
  leaf unit node f is h = leaf-encloses factors sheet valid figure covering unit node f is h

  -- ---- present values
  pub present-encloses : (name : List ℕ) (l : Liability) → liability_of name sheet.liabilities ≡ Some l → Holds one (figure (nodes.Liability name of_liabilities.Present)) (Frac (liability_worth sheet l))
  unfolding liability_worth
  present-encloses name l is =
      let fits = liability-fits sheet valid directions.Up l (liability-known sheet valid name l is) in
      reaches one (nodes.Liability name of_liabilities.Present) (Frac (liability_worth sheet l))
      (subst (λ (found : Option Liability). Holds one (worth_ends (option_map_or (valued sheet) found (record { asof = sheet.numbers.asof.number; payments = []; rates = [] })) (covering.discounts (nodes.Liability name of_liabilities.Present))) (Frac (liability_worth sheet l)))
      (sym is) (worth-encloses (valued sheet l) (covering.discounts (nodes.Liability name of_liabilities.Present)) (covering.owing name l is).base fits.near))

  -- what is held of a currency's securities
  held-is : (currency : List ℕ) → sum_ends (held_ends sheet figure currency) ≡ exact_ends (pos (assets_in currency sheet))
  held-is currency =
      ap sum_ends (numbers-of factors sheet valid figure covering security_total (λ p. refl) (filter (is_held_in currency) sheet.securities)) ∙ held-sum factors sheet valid currency

  owed-encloses : (currency : List ℕ) → Holds one (sum_ends (owed_ends sheet figure currency)) (Frac (liabilities_in currency sheet))
  unfolding liabilities_in
  owed-encloses currency =
      where-encloses figure liability_present (is_owed_in currency) one (lit< tt) (liability_worth sheet) sheet.liabilities
      (All-map (λ l. liability_of (liability_name l) sheet.liabilities ≡ Some l) _ sheet.liabilities (λ l own e. present-encloses (liability_name l) l own) (own-liabilities sheet valid))

  -- ---- a foreign currency
  cost-encloses : (direction : Direction) (currency : List ℕ)
      → Holds 1000 (foreign_ends direction (assets_in currency sheet) (sum_ends (owed_ends sheet figure currency))) (Frac (change_cost direction (assets_in currency sheet) (liabilities_in currency sheet)))
  cost-encloses directions.Up currency = rise-encloses (assets_in currency sheet) (sum_ends (owed_ends sheet figure currency)) (liabilities_in currency sheet) (owed-encloses currency)
  cost-encloses directions.Down currency = fall-encloses (assets_in currency sheet) (sum_ends (owed_ends sheet figure currency)) (liabilities_in currency sheet) (owed-encloses currency)

  change-gross : (direction : Direction) (currency : List ℕ) → Holds 1000 (figure (nodes.Currency currency (of_currencies.Scenario direction measures.Gross))) (Frac (change_outcome sheet currency direction).gross)
  unfolding change_outcome
  change-gross direction currency =
      let node = nodes.Currency currency (of_currencies.Scenario direction measures.Gross) in
      let is : rule_of node ≡ foreign_ends direction (assets_in currency sheet) (sum_ends (owed_ends sheet figure currency)) =
      ap₂ (λ (a b : Ends). foreign_ends direction (amount_of a) b) (ap sum_ends (first-are sheet figure currency) ∙ held-is currency) (ap sum_ends (others-are sheet figure currency)) in
      reaches 1000 node (Frac (change_outcome sheet currency direction).gross)
      (subst (λ (e : Ends). Holds 1000 e (Frac (change_outcome sheet currency direction).gross)) (sym is) (cost-encloses direction currency))

  change-net : (direction : Direction) (currency : List ℕ) → Holds 1000 (figure (nodes.Currency currency (of_currencies.Scenario direction measures.Net))) (Frac (change_outcome sheet currency direction).net)
  unfolding change_outcome
  change-net direction currency =
      let e = figure (nodes.Currency currency (of_currencies.Scenario direction measures.Gross)) in
      let absorb = currency_absorbed sheet currency direction in
      let gross = (change_outcome sheet currency direction).gross in
      reaches 1000 (nodes.Currency currency (of_currencies.Scenario direction measures.Net)) (Frac (change_outcome sheet currency direction).net)
      (Encloses-net_exact 1000 _ _ gross absorb (Encloses-net e absorb (Frac gross) (change-gross direction currency)))

  pub change-encloses : (direction : Direction) (measure : Measure) (currency : List ℕ)
      → Holds 1000 (figure (nodes.Currency currency (of_currencies.Scenario direction measure))) (Frac (measured measure (change_outcome sheet currency direction)))
  change-encloses direction measures.Gross currency = change-gross direction currency
  change-encloses direction measures.Net currency = change-net direction currency

  pub both-enclose : (currency : List ℕ) → EncloseOutcomes 1000 (currency_alternatives figure currency) (change_outcomes sheet currency)
  both-enclose currency = (one-encloses directions.Up, (one-encloses directions.Down, tt))
    where
      one-encloses : (direction : Direction) → EncloseOutcome 1000 (alternative_of figure (λ measure. nodes.Currency currency (of_currencies.Scenario direction measure))) (change_outcome sheet currency direction)
      one-encloses direction = record { gross = change-gross direction currency; net = change-net direction currency }

  decisive-is : (currency : List ℕ) → decisive_change sheet currency ≡ outcome_at (change_outcomes sheet currency) (chosen (change_outcomes sheet currency))
  unfolding decisive_change
  decisive-is currency = refl

  pub change-picked-encloses : (measure : Measure) (currency : List ℕ) → Holds 1000 (figure (nodes.Currency currency (of_currencies.Picked measure))) (Frac (measured measure (decisive_change sheet currency)))
  change-picked-encloses measures.Gross currency =
      let outcomes = change_outcomes sheet currency in
      reaches 1000 (nodes.Currency currency (of_currencies.Picked measures.Gross)) (Frac (decisive_change sheet currency).gross)
      (rw (decisive-is currency) (gross_encloses 1000 (currency_alternatives figure currency) outcomes (chosen outcomes) (both-enclose currency) (chosen-is outcomes (lit< tt))))
  change-picked-encloses measures.Net currency =
      let outcomes = change_outcomes sheet currency in
      reaches 1000 (nodes.Currency currency (of_currencies.Picked measures.Net)) (Frac (decisive_change sheet currency).net)
      (rw (decisive-is currency) (net_encloses 1000 (currency_alternatives figure currency) outcomes (chosen outcomes) (both-enclose currency) (chosen-is outcomes (lit< tt))))

  -- the mask of the choice has the bit of the one that decides by the exact requirements
  pub change-choice-has-decisive : (currency : List ℕ) → IsBitSet (amount_of (figure (nodes.Currency currency of_currencies.Choice))) (chosen (change_outcomes sheet currency))
  change-choice-has-decisive currency =
      let outcomes = change_outcomes sheet currency in
      let list = currency_alternatives figure currency in
      subst (λ (e : Ends). IsBitSet (amount_of e) (chosen outcomes)) (sym (covering.choices (nodes.Currency currency of_currencies.Choice) refl))
      ((mask_bits list (chosen outcomes) (chosen-is outcomes (lit< tt)).listed).1
      (chosen_unbeaten 1000 list outcomes (chosen outcomes) (both-enclose currency) (chosen-is outcomes (lit< tt))))

  -- ---- all foreign currencies
  each-picked : (measure : Measure) (curves : List Curve)
      → AllByRecursion (λ c. is_foreign sheet c ≡ true → Holds 1000 (figure (currency_picked measure c)) (Frac (measured measure (decisive_change sheet c.currency)))) curves
  each-picked measure [] = tt
  each-picked measure (c ∷ curves) = (λ e. change-picked-encloses measure c.currency, each-picked measure curves)

  pub currency-encloses : (measure : Measure) → Holds 1000 (figure (nodes.Whole (wholes.Currency measure))) (Frac (currency_exact measure sheet))
  unfolding currency_exact
  currency-encloses measure =
      reaches 1000 (nodes.Whole (wholes.Currency measure)) (Frac (currency_exact measure sheet))
      (where-encloses figure (currency_picked measure) (is_foreign sheet) 1000 (lit< tt) (λ (c : Curve). measured measure (decisive_change sheet c.currency)) sheet.curves
      (each-picked measure sheet.curves))

  -- ---- property and spread risk
  pub property-enclosed : Holds 1000 (figure (nodes.Whole wholes.Property)) (property_exact sheet)
  property-enclosed =
      leaf 1000 (nodes.Whole wholes.Property) (property_exact sheet) refl
      (subst (λ (e : Ends). Holds 1000 e (property_exact sheet)) (sym (property-worked factors sheet valid)) (property-encloses (class_total classes.Property sheet)))

  own-name : (name : List ℕ) (p : Position) → position_of name sheet.securities ≡ Some p → name ≡ position_name p
  own-name name p is = same_name-is name (position_name p) (name_of-row_of position_name name sheet.securities p is)

  pub bond-enclosed : (name : List ℕ) (p : Position) → position_of name sheet.securities ≡ Some p → Holds 1_000_000_000 (figure (nodes.Security name of_securities.Spread)) (Frac (bond_exact factors sheet p))
  bond-enclosed name p is =
      let row = factor_row (step_of sheet p) in
      subst (λ (n : List ℕ). Holds 1_000_000_000 (figure (nodes.Security name of_securities.Spread)) (Frac (bond_loss_exact factors (total_of sheet n) row p.security.duration))) (own-name name p is)
      (leaf 1_000_000_000 (nodes.Security name of_securities.Spread) (Frac (bond_loss_exact factors (total_of sheet name) row p.security.duration)) refl
      (subst (λ (e : Ends). Holds 1_000_000_000 e (Frac (bond_loss_exact factors (total_of sheet name) row p.security.duration))) (sym (bond-worked factors sheet valid name p is))
      (bond-encloses factors (total_of sheet name) row p.security.duration)))

  pub spread-enclosed : Holds 1000 (figure (nodes.Whole wholes.Spread)) (spread_exact factors sheet)
  unfolding spread_exact
  spread-enclosed =
      reaches 1000 (nodes.Whole wholes.Spread) (spread_exact factors sheet)
      (spread-encloses (sum_ends (map figure (map security_spread (filter (has_class classes.Bond) sheet.securities)))) (spread_exact factors sheet)
      (where-encloses figure security_spread (has_class classes.Bond) 1_000_000_000 (lit< tt) (bond_exact factors sheet) sheet.securities
      (All-map (λ p. position_of (position_name p) sheet.securities ≡ Some p) _ sheet.securities (λ p own e. bond-enclosed (position_name p) p own) (own-securities sheet valid))))

  -- ---- market risk concentrations
  pub square-enclosed : (name : List ℕ) (g : Group) → group_of name sheet.groups ≡ Some g → Holds 10_000_000_000 (figure (nodes.Group name of_groups.ConcentrationSquare)) (Frac (group_square_exact sheet g))
  square-enclosed name g is =
      number-encloses factors sheet valid figure covering 10_000_000_000 (nodes.Group name of_groups.ConcentrationSquare) (Frac (group_square_exact sheet g)) refl
      (subst (λ (e : Ends). Holds 10_000_000_000 e (Frac (group_square_exact sheet g))) (sym (square-worked factors sheet valid name g is))
      (Encloses-exact 10_000_000_000 (pos (square_cents factors sheet valid g)) (group_square_exact sheet g)
      (square-exact (assets_cents sheet) (group_cents sheet g.name) (threshold_units g.kind g.step) (factor_units g.kind g.step) (threshold_exact g.kind g.step) (factor_exact g.kind g.step)
      (threshold-exact g.kind g.step) (factor-exact g.kind g.step))))

  pub concentration-enclosed : Holds 1000 (figure (nodes.Whole wholes.Concentration)) (concentration_exact sheet)
  unfolding concentration_exact
  concentration-enclosed =
      leaf 1000 (nodes.Whole wholes.Concentration) (concentration_exact sheet) refl
      (subst (λ (e : Ends). Holds 1000 e (concentration_exact sheet)) (sym (concentration-worked factors sheet valid))
      (concentration-encloses (assets_cents sheet) (exposures factors sheet valid)))

  -- ---- what absorption leaves
  pub net-enclosed : (risk : Risk) (f : Figure) → Holds 1000 (figure (gross_of risk)) f → Holds 1000 (figure (nodes.Whole (wholes.NetPart risk))) (net_figure f (absorbed (risk_key risk) sheet.numbers))
  net-enclosed risk f h =
      let absorb = absorbed (risk_key risk) sheet.numbers in
      reaches 1000 (nodes.Whole (wholes.NetPart risk)) (net_figure f absorb) (Encloses-net (figure (gross_of risk)) absorb f h)

  pub part-enclosed : (risk : Risk) (measure : Measure) (f : Figure) → Holds 1000 (figure (gross_of risk)) f → Holds 1000 (figure (risk_part risk measure)) (absorbed_part sheet measure risk f)
  part-enclosed risk measures.Gross f h = h
  part-enclosed risk measures.Net f h = net-enclosed risk f h

  -- ---- the module
  abbrev six : Measure → List Ends
  six measure =
      figure (nodes.Whole (wholes.Picked alternatives.Interest measure)) ∷ figure (risk_part risks.Equity measure) ∷ figure (risk_part risks.Property measure)
      ∷ figure (risk_part risks.Spread measure) ∷ figure (risk_part risks.Concentration measure) ∷ figure (nodes.Whole (wholes.Currency measure)) ∷ []

  -- of a risk of the module before or after absorption
  part-least : AreNotNegative is_part_of_market figure → (risk : Risk) (measure : Measure) → is_risk_of_market risk ≡ true → pos 0 ≤ℤ (figure (risk_part risk measure)).low
  part-least least risk measures.Net of = least (nodes.Whole (wholes.NetPart risk)) of
  part-least least risks.Equity measures.Gross of = least (nodes.Whole wholes.EquityRoot) refl
  part-least least risks.Property measures.Gross of = least (nodes.Whole wholes.Property) refl
  part-least least risks.Spread measures.Gross of = least (nodes.Whole wholes.Spread) refl
  part-least least risks.Concentration measures.Gross of = least (nodes.Whole wholes.Concentration) refl
  part-least least risks.Default measures.Gross of = absurd (true≢false (sym of))
  part-least least risks.HealthCatastrophe measures.Gross of = absurd (true≢false (sym of))

  -- where the interest scenario and equity risk are enclosed, the mask has the bit of the scenario that decides, and no part is
  -- below 0
  pub market-enclosed : AreNotNegative is_part_of_market figure → (measure : Measure) (interest equity : Figure) (place : ℕ) → place < 2
      → IsMaskOfTwo (amount_of (figure (nodes.Whole (wholes.Choice alternatives.Interest))))
      → Holds 1000 (figure (nodes.Whole (wholes.Picked alternatives.Interest measure))) interest → Holds 1000 (figure (gross_of risks.Equity)) equity
      → IsBitSet (amount_of (figure (nodes.Whole (wholes.Choice alternatives.Interest)))) place
      → Holds 1000 (figure (nodes.Whole (wholes.Market measure))) (market_figure place (parts_of (interest ∷ absorbed_part sheet measure risks.Equity equity
      ∷ absorbed_part sheet measure risks.Property (property_exact sheet) ∷ absorbed_part sheet measure risks.Spread (spread_exact factors sheet)
      ∷ absorbed_part sheet measure risks.Concentration (concentration_exact sheet) ∷ Frac (currency_exact measure sheet) ∷ [])))
  market-enclosed least measure interest equity place two mask h k bit =
      let figures = parts_of (interest ∷ absorbed_part sheet measure risks.Equity equity
      ∷ absorbed_part sheet measure risks.Property (property_exact sheet) ∷ absorbed_part sheet measure risks.Spread (spread_exact factors sheet)
      ∷ absorbed_part sheet measure risks.Concentration (concentration_exact sheet) ∷ Frac (currency_exact measure sheet) ∷ []) in
      let all : EncloseAll 1000 (six measure) figures = (
        least (nodes.Whole (wholes.Picked alternatives.Interest measure)) refl,
        h,
        (
          part-least least risks.Equity measure refl,
          part-enclosed risks.Equity measure equity k,
          (
            part-least least risks.Property measure refl,
            part-enclosed risks.Property measure _ property-enclosed,
            (
              part-least least risks.Spread measure refl,
              part-enclosed risks.Spread measure _ spread-enclosed,
              (
                part-least least risks.Concentration measure refl,
                part-enclosed risks.Concentration measure _ concentration-enclosed,
                (
                  least (nodes.Whole (wholes.Currency measure)) refl,
                  currency-encloses measure,
                  tt,
                ),
              ),
            ),
          ),
        ),
      ) in
      reaches 1000 (nodes.Whole (wholes.Market measure)) (market_figure place figures)
      (market-encloses (six measure) figures refl all (amount_of (figure (nodes.Whole (wholes.Choice alternatives.Interest)))) place mask.some mask.most two bit)
