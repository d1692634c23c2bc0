-- For every live node of market risk, besides those of interest rate and equity risk, the rule fits its own data and the
-- worked figures of its sources.
use Rattle.std.proofs.Common.{◌≡◌, ℕ, ◌<◌, ◌^◌, ◌≤◌, true, false, List, [], ◌∷◌, map, refl, ap, subst, sym, Option, Some, None, is_some, arith, lit≤}
use Rattle.std.specs.Option.{option_map_or}
use Rattle.scr_num.specs.Amounts.{IsAmount}
use Rattle.scr_num.specs.Rounding.{Ends}
use Rattle.scr_num.specs.Sizes.{IsWithin, AreTogether}
use Rattle.scr_num.specs.Sums.{sum_ends}
use Rattle.scr_num.proofs.AmountBounds.{amount-exact, amount-wider}
use Rattle.scr_factors.specs.Values.{FactorValues}
use Rattle.scr_market.specs.Spread.{row_of as factor_row}
use Rattle.scr_conc.specs.Thresholds.{step_of as counted_step}
use Rattle.scr_tables.specs.Tables.{row_of, has_row}
use Rattle.scr_tables.proofs.TableRows.{All-row_of}
use Rattle.scr_profile.specs.declared.group_kind.GroupKind.TheVariants as kinds
use Rattle.scr_profile.specs.declared.limits.TheConstants.{MAX_HELD, MAX_AMOUNT}
use Rattle.scr_sheet.specs.BalanceSheet.{position_name, liability_name, curve_name, group_name, position_of}
use Rattle.scr_sheet.specs.Forms.{IsStepOrNone}
use Rattle.scr_sheet.specs.Validity.{Valid, IsGroup, IsSecurity, IsCurve}
use Rattle.scr_sheet.specs.declared.rows.Class.TheVariants as classes
use Rattle.scr_sheet.specs.declared.{rows.Curve.Curve, rows.Group.Group, rows.Liability.Liability, rows.Position.Position, sheet.BalanceSheet.BalanceSheet}
use Rattle.scr_sheet.proofs.Amounts.{absorbed-within}
use Rattle.scr_sheet.proofs.HeldNames.{row-there}
use Rattle.scr_nodes.specs.declared.node.Alternatives.TheVariants as alternatives
use Rattle.scr_nodes.specs.declared.{node.Direction.Direction, node.Measure.Measure, node.Node.Node, node.Risk.Risk}
use Rattle.scr_nodes.specs.declared.node.Direction.TheVariants as directions
use Rattle.scr_nodes.specs.declared.node.Measure.TheVariants as measures
use Rattle.scr_nodes.specs.declared.node.Node.TheVariants as nodes
use Rattle.scr_nodes.specs.declared.node.OfSecurity.TheVariants as of_securities
use Rattle.scr_nodes.specs.declared.node.OfLiability.TheVariants as of_liabilities
use Rattle.scr_nodes.specs.declared.node.OfCurrency.TheVariants as of_currencies
use Rattle.scr_nodes.specs.declared.node.OfGroup.TheVariants as of_groups
use Rattle.scr_nodes.specs.declared.node.Whole.TheVariants as wholes
use Rattle.scr_nodes.specs.declared.node.Risk.TheVariants as risks
use Rattle.scr_nodes.specs.Live.{is_bond, is_group}
use Rattle.scr_nodes.specs.Own.Own.{Stressed, Square}
use Rattle.scr_nodes.specs.OwnOf.{own_of, absorbed_by, bond_stressed, currency_absorbed, group_square, risk_key, valued}
use Rattle.scr_nodes.specs.Rows.{has_class, has_group, is_of_group, group_of, liability_of, step_of, step_of_group}
use Rattle.scr_nodes.specs.Sources.{sources_of, gross_of}
use Rattle.scr_rules.specs.Fits.{Fits}
use Rattle.scr_rules.specs.MarketFits.{FitsWorth}
use Rattle.scr_rules.specs.Worked.{worked}
use Rattle.scr_rules.proofs.MarketSizes.{held-sum, assets-small, owed-small, tested-together, change-amount, picked-together, property-amount, bonds-together, spread-amount, group-worked, group-small, assets-worked, all-assets-small, group-part, squares-together, squares-amount, concentration-amount, interest-mask, mask-amount, six_most, six-amounts, change-most-small}
use Rattle.scr_rules.proofs.WorthsIn.{first-are, others-are, worths-count}
use Rattle.scr_rules.proofs.RootAmounts.{root-fits}
use Rattle.scr_rules.proofs.Payments.{liability-known, liability-fits}
use Rattle.scr_rules.proofs.Sizes.{class-amount}
use Rattle.scr_rules.proofs.Totals.{security-amount}

-- a bond is a security
pub bond-there : (found : Option Position) → option_map_or (has_class classes.Bond) found false ≡ true → (p : Position) × (found ≡ Some p) × (has_class classes.Bond p ≡ true)
bond-there None h = absurd (cc)
bond-there (Some p) h = (p, refl, h)

module _ (factors : FactorValues) (sheet : BalanceSheet) (valid : Valid sheet) where
  abbrev figure : Node → Ends
  figure node = worked factors sheet node

  abbrev NodeFits : Node → Type 0
  NodeFits node = Fits (own_of factors sheet node) (map figure (sources_of sheet node))

  pub present-fits : (name : List ℕ) → has_row liability_name name sheet.liabilities ≡ true → NodeFits (nodes.Liability name of_liabilities.Present)
  present-fits name live =
      let l = row-there liability_name name sheet.liabilities live in
      subst (λ found. FitsWorth (option_map_or (valued sheet) found (record { asof = sheet.numbers.asof.number; payments = []; rates = [] }))) (sym l.1) (by l.0 l.1)
    where
      by : (l : Liability) → liability_of name sheet.liabilities ≡ Some l → FitsWorth (valued sheet l)
      by l is =
          let fits = liability-fits sheet valid directions.Up l (liability-known sheet valid name l is) in
          record { asof = fits.asof; days = fits.days; near = fits.near; small = fits.small; rates = fits.rates; count = fits.count }

  -- ---- currencies
  pub change-fits : (currency : List ℕ) (direction : Direction) → NodeFits (nodes.Currency currency (of_currencies.Scenario direction measures.Gross))
  change-fits currency direction = record {
    count = worths-count sheet (worked factors sheet) currency;
    held = subst (AreTogether (10 ^ 33)) (sym (first-are sheet (worked factors sheet) currency)) (tested-together factors sheet valid _);
    assets = subst (λ es. IsAmount MAX_HELD (sum_ends es)) (sym (first-are sheet (worked factors sheet) currency))
        (subst (IsAmount MAX_HELD) (sym (held-sum factors sheet valid currency)) (amount-exact MAX_HELD _ (assets-small factors sheet valid currency)));
    owed = subst (AreTogether (10 ^ 33)) (sym (others-are sheet (worked factors sheet) currency)) (owed-small factors sheet valid currency);
  }

  absorbed-small : (currency : List ℕ) (direction : Direction) → currency_absorbed sheet currency direction ≤ MAX_AMOUNT
  absorbed-small currency direction = by direction (row_of curve_name currency sheet.curves) refl
    where
      by : (d : Direction) (found : Option Curve) → row_of curve_name currency sheet.curves ≡ found → option_map_or (absorbed_by d) found 0 ≤ MAX_AMOUNT
      by d None is = omega arith
      by directions.Up (Some c) is = let own : IsCurve c = All-row_of curve_name IsCurve currency sheet.curves c is valid.curves in own.4
      by directions.Down (Some c) is = let own : IsCurve c = All-row_of curve_name IsCurve currency sheet.curves c is valid.curves in own.5

  wide : (most : ℕ) (e : Ends) → most ≤ 2 ^ 100 → IsAmount most e → IsWithin (2 ^ 100) e
  wide most e le h = record { low = omega (arith, le, h.low_size); high = omega (arith, le, h.high_size) }

  pub change-net-fits : (currency : List ℕ) (direction : Direction) → NodeFits (nodes.Currency currency (of_currencies.Scenario direction measures.Net))
  change-net-fits currency direction = record {
    absorbed = absorbed-small currency direction;
    gross = wide (10 ^ 18) (figure (nodes.Currency currency (of_currencies.Scenario direction measures.Gross))) (lit≤ tt)
        (amount-wider _ _ _ (change-most-small factors sheet valid currency) (change-amount factors sheet valid direction measures.Gross currency));
  }

  pub change-choice-fits : (currency : List ℕ) → NodeFits (nodes.Currency currency of_currencies.Choice)
  change-choice-fits currency = record { some = omega arith; few = omega arith }

  pub change-picked-fits : (currency : List ℕ) (measure : Measure) → NodeFits (nodes.Currency currency (of_currencies.Picked measure))
  change-picked-fits currency measure = record { some = omega arith; few = omega arith }

  pub currency-fits : (measure : Measure) → NodeFits (nodes.Whole (wholes.Currency measure))
  currency-fits measure = picked-together factors sheet valid measure

  -- ---- property and spread risk
  pub property-fits : NodeFits (nodes.Whole wholes.Property)
  property-fits = record { cents = class-amount factors sheet valid classes.Property }

  -- no step is above 6
  group-step : (name : List ℕ) → IsStepOrNone (step_of_group sheet name)
  group-step name = by (group_of name sheet.groups) refl
    where
      by : (found : Option Group) → group_of name sheet.groups ≡ found → IsStepOrNone (option_map_or (λ (g : Group). g.step) found None)
      by None is = tt
      by (Some g) is = let own : IsGroup g = All-row_of group_name IsGroup name sheet.groups g is valid.groups in own.1

  bond-step : (p : Position) → factor_row (step_of sheet p) < 8
  bond-step p = by p.security.group
    where
      row : (step : Option ℕ) → IsStepOrNone step → factor_row step < 8
      row None h = omega arith
      row (Some step) h = let most : step ≤ 6 = h in omega (arith, most)

      by : (group : Option (List ℕ)) → factor_row (option_map_or (step_of_group sheet) group None) < 8
      by None = omega arith
      by (Some name) = row (step_of_group sheet name) (group-step name)

  pub bond-fits : (name : List ℕ) → is_bond sheet name ≡ true → NodeFits (nodes.Security name of_securities.Spread)
  bond-fits name live =
      let p = bond-there (position_of name sheet.securities) live in
      subst (λ found. Fits (option_map_or (bond_stressed factors sheet) found (Stressed factors None 0)) (figure (nodes.Security name of_securities.Total) ∷ [])) (sym p.1)
      (record {
        row = bond-step p.0;
        long = (All-row_of position_name IsSecurity name sheet.securities p.0 p.1 valid.securities).3;
        cents = security-amount factors sheet valid name (ap is_some p.1);
      })

  pub spread-fits : NodeFits (nodes.Whole wholes.Spread)
  spread-fits = bonds-together factors sheet valid

  -- ---- concentrations
  pub group-fits : (name : List ℕ) → NodeFits (nodes.Group name of_groups.Total)
  group-fits name = tested-together factors sheet valid (is_of_group name)

  pub assets-fits : NodeFits (nodes.Whole wholes.Assets)
  assets-fits = tested-together factors sheet valid has_group

  pub square-fits : (name : List ℕ) → is_group sheet name ≡ true → NodeFits (nodes.Group name of_groups.ConcentrationSquare)
  square-fits name live =
      let g = row-there group_name name sheet.groups live in
      subst (λ found. Fits (option_map_or group_square found (Square kinds.Name None)) (figure (nodes.Whole wholes.Assets) ∷ figure (nodes.Group name of_groups.Total) ∷ [])) (sym g.1)
      (record {
        at_most_6 = step g.0.step (All-row_of group_name IsGroup name sheet.groups g.0 g.1 valid.groups).1;
        assets = subst (IsAmount MAX_HELD) (sym (assets-worked factors sheet valid)) (amount-exact MAX_HELD _ (all-assets-small factors sheet valid));
        exposure = subst (IsAmount MAX_HELD) (sym (group-worked factors sheet valid name)) (amount-exact MAX_HELD _ (group-small factors sheet valid name));
        part = rw (assets-worked factors sheet valid, group-worked factors sheet valid name) (group-part factors sheet valid name);
      })
    where
      step : (s : Option ℕ) → IsStepOrNone s → counted_step s ≤ 6
      step None h = omega arith
      step (Some n) h = h

  pub concentration-fits : NodeFits (nodes.Whole wholes.Concentration)
  concentration-fits = record { together = squares-together factors sheet valid; sum = squares-amount factors sheet valid }

  -- ---- what absorption leaves, and the module
  net-fits : (risk : Risk) (most : ℕ) → most ≤ 2 ^ 100 → IsAmount most (figure (gross_of risk)) → NodeFits (nodes.Whole (wholes.NetPart risk))
  net-fits risk most le h = record { absorbed = absorbed-within (risk_key risk) sheet.numbers valid.numbers.absorb; gross = wide most (figure (gross_of risk)) le h }

  pub property-net-fits : NodeFits (nodes.Whole (wholes.NetPart risks.Property))
  property-net-fits = net-fits risks.Property _ (lit≤ tt) (property-amount factors sheet valid)

  pub spread-net-fits : NodeFits (nodes.Whole (wholes.NetPart risks.Spread))
  spread-net-fits = net-fits risks.Spread _ (lit≤ tt) (spread-amount factors sheet valid)

  pub concentration-net-fits : NodeFits (nodes.Whole (wholes.NetPart risks.Concentration))
  concentration-net-fits = net-fits risks.Concentration _ (lit≤ tt) (concentration-amount factors sheet valid)

  pub market-fits : (measure : Measure) → NodeFits (nodes.Whole (wholes.Market measure))
  market-fits measure = record {
    parts = root-fits 6 (six_most factors sheet valid) (map figure (sources_of sheet (nodes.Whole (wholes.Market measure)))) (six-amounts factors sheet valid measure) (omega arith);
    mask = mask-amount factors sheet valid;
    some = (interest-mask factors sheet valid (figure (nodes.Whole (wholes.Choice alternatives.Interest))) refl).some;
  }
