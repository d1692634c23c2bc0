-- For every live node the rule fits its own data and the worked figures of its sources.
use Rattle.std.proofs.Common.{◌≡◌, ℕ, ◌^◌, ◌≤◌, true, false, map, refl, ap, subst, sym, Some, None, is_some, Option, [], ◌∷◌, arith}
use Rattle.std.specs.Option.{option_map_or}
use Rattle.scr_num.specs.Amounts.{IsAmount}
use Rattle.scr_num.specs.Rounding.{Ends}
use Rattle.scr_num.specs.Sizes.{IsWithin}
use Rattle.scr_num.proofs.AmountBounds.{amount-exact}
use Rattle.scr_market.specs.declared.equity_parts.TheConstants.{MAX_EQUITY_PART}
use Rattle.scr_factors.specs.Values.{FactorValues, IsInForm}
use Rattle.scr_sheet.specs.BalanceSheet.{liability_name, position_of}
use Rattle.scr_sheet.specs.declared.rows.Class.TheVariants as classes
use Rattle.scr_sheet.specs.declared.{rows.Position.Position, sheet.BalanceSheet.BalanceSheet}
use Rattle.scr_sheet.specs.Validity.{Valid}
use Rattle.scr_sheet.proofs.Amounts.{absorbed-within}
use Rattle.scr_sheet.proofs.HeldNames.{row-there}
use Rattle.scr_profile.specs.declared.limits.TheConstants.{MAX_HELD}
use Rattle.scr_nodes.specs.declared.node.Alternatives.TheVariants as alternatives
use Rattle.scr_nodes.specs.declared.{node.Equities.Equities, node.Node.Node}
use Rattle.scr_nodes.specs.declared.node.Equities.TheVariants as equities
use Rattle.scr_nodes.specs.declared.node.Measure.TheVariants as measures
use Rattle.scr_nodes.specs.declared.node.Node.TheVariants as nodes
use Rattle.scr_nodes.specs.declared.node.OfFund.TheVariants as of_funds
use Rattle.scr_nodes.specs.declared.node.OfSecurity.TheVariants as of_securities
use Rattle.scr_nodes.specs.declared.node.OfLiability.TheVariants as of_liabilities
use Rattle.scr_nodes.specs.declared.node.OfCurrency.TheVariants as of_currencies
use Rattle.scr_nodes.specs.declared.node.OfGroup.TheVariants as of_groups
use Rattle.scr_nodes.specs.declared.node.Whole.TheVariants as wholes
use Rattle.scr_nodes.specs.declared.node.Risk.TheVariants as risks
use Rattle.scr_nodes.specs.Live.{is_live}
use Rattle.scr_nodes.specs.OwnOf.{own_of, paid_by_security, paid_by_liability, nothing_paid, interest_key, risk_key}
use Rattle.scr_nodes.specs.Rows.{is_paying}
use Rattle.scr_nodes.specs.Sources.{sources_of}
use Rattle.scr_rules.specs.Fits.{Fits, FitsPaid}
use Rattle.scr_rules.specs.Worked.{worked}
use Rattle.scr_rules.proofs.MarketRanges.{present-fits, change-fits, change-net-fits, change-choice-fits, change-picked-fits, currency-fits, property-fits, bond-fits, spread-fits, group-fits, assets-fits, square-fits, concentration-fits, property-net-fits, spread-net-fits, concentration-net-fits, market-fits}
use Rattle.scr_rules.proofs.Payments.{security-known, liability-known, security-fits, liability-fits}
use Rattle.scr_rules.proofs.RootAmounts.{root-fits}
use Rattle.scr_rules.proofs.Sizes.{unit-within, one-currency, losses-together, gross-small, class-amount, class-together, part-amount, root-amount, least, greatest}
use Rattle.scr_rules.proofs.Totals as totals
use Rattle.scr_rules.proofs.LifeRanges as life
use Rattle.scr_rules.proofs.DefaultRanges as defaults
use Rattle.scr_rules.proofs.NonlifeRanges as nonlife
use Rattle.scr_rules.proofs.LossRanges as loss
use Rattle.scr_rules.proofs.ModulesTogether.{others-within}

-- a security that pays is one
pub position-there : (found : Option Position) → option_map_or is_paying found false ≡ true → (p : Position) × (found ≡ Some p) × (is_paying p ≡ true)
position-there None h = absurd (cc)
position-there (Some p) h = (p, refl, h)

module _ (factors : FactorValues) (known : IsInForm factors) (sheet : BalanceSheet) (valid : Valid sheet) where
  abbrev figure : Node → Ends
  figure node = worked factors sheet node

  abbrev NodeFits : Node → Type 0
  NodeFits node = Fits (own_of factors sheet node) (map figure (sources_of sheet node))

  fall-fits : (kind : Equities) → NodeFits (nodes.Whole (wholes.EquityPart kind))
  fall-fits equities.Type1 = record { cents = class-amount factors sheet valid classes.Type1Equity; strategic = class-amount factors sheet valid classes.Type1Strategic; least = least factors sheet valid; most = greatest factors sheet valid }
  fall-fits equities.Type2 = record { cents = class-amount factors sheet valid classes.Type2Equity; strategic = class-amount factors sheet valid classes.Type2Strategic; least = least factors sheet valid; most = greatest factors sheet valid }
  fall-fits equities.Infrastructure = record { cents = class-amount factors sheet valid classes.Infrastructure; strategic = amount-exact MAX_HELD 0 (omega arith); least = least factors sheet valid; most = greatest factors sheet valid }
  fall-fits equities.InfrastructureCorporate = record { cents = class-amount factors sheet valid classes.InfrastructureCorporate; strategic = amount-exact MAX_HELD 0 (omega arith); least = least factors sheet valid; most = greatest factors sheet valid }

  wider : (m : ℕ) (e : Ends) → m ≤ 2 ^ 100 → IsWithin m e → IsWithin (2 ^ 100) e
  wider m e le h = record { low = omega (arith, le, h.low); high = omega (arith, le, h.high) }

  amount-within : (m : ℕ) (e : Ends) → IsAmount m e → IsWithin m e
  amount-within m e h = record { low = h.low_size; high = h.high_size }

  pub node-fits : (node : Node) → is_live sheet node ≡ true → NodeFits node
  node-fits (nodes.Fund name of_funds.Total) live = totals.fund-fits factors sheet valid name live
  node-fits (nodes.Security name of_securities.Total) live = totals.security-fits factors sheet valid name live
  node-fits (nodes.Security name (of_securities.UnitLoss direction)) live =
      let p = position-there (position_of name sheet.securities) live in
      subst (λ found. FitsPaid (option_map_or (paid_by_security sheet direction) found (nothing_paid sheet direction))) (sym p.1)
      (security-fits sheet valid direction p.0 (security-known sheet valid name p.0 p.1))
  node-fits (nodes.Security name (of_securities.Rate direction)) live =
      let p = position-there (position_of name sheet.securities) live in
      record { cents = totals.security-amount factors sheet valid name (ap is_some p.1); unit = unit-within factors sheet valid direction name p.0 p.1 }
  node-fits (nodes.Liability name (of_liabilities.Rate direction)) live =
      let l = row-there liability_name name sheet.liabilities live in
      subst (λ found. FitsPaid (option_map_or (paid_by_liability sheet direction) found (nothing_paid sheet direction))) (sym l.1)
      (liability-fits sheet valid direction l.0 (liability-known sheet valid name l.0 l.1))
  node-fits (nodes.Currency currency (of_currencies.Loss direction)) live = one-currency factors sheet valid direction currency
  node-fits (nodes.Whole (wholes.InterestScenario direction measures.Gross)) live = losses-together factors sheet valid direction
  node-fits (nodes.Whole (wholes.InterestScenario direction measures.Net)) live = record {
    absorbed = absorbed-within (interest_key direction) sheet.numbers valid.numbers.absorb;
    gross = wider (10 ^ 18) (figure (nodes.Whole (wholes.InterestScenario direction measures.Gross))) (omega arith) (gross-small factors sheet valid direction);
  }
  node-fits (nodes.Whole (wholes.Choice alternatives.Interest)) live = record { some = omega arith; few = omega arith }
  node-fits (nodes.Whole (wholes.Picked alternatives.Interest measure)) live = record { some = omega arith; few = omega arith }
  node-fits (nodes.Whole (wholes.ClassSum class)) live = class-together factors sheet valid class
  node-fits (nodes.Whole (wholes.EquityPart kind)) live = fall-fits kind
  node-fits (nodes.Whole wholes.EquityRoot) live =
      let part = part-amount factors sheet valid in
      root-fits 4 (MAX_EQUITY_PART ∷ MAX_EQUITY_PART ∷ MAX_EQUITY_PART ∷ MAX_EQUITY_PART ∷ []) (map figure (sources_of sheet (nodes.Whole wholes.EquityRoot)))
      (part equities.Type1, (part equities.Type2, (part equities.Infrastructure, (part equities.InfrastructureCorporate, tt)))) (omega arith)
  node-fits (nodes.Whole (wholes.NetPart risks.Equity)) live = record {
    absorbed = absorbed-within (risk_key risks.Equity) sheet.numbers valid.numbers.absorb;
    gross = wider _ (figure (nodes.Whole wholes.EquityRoot)) (omega arith) (amount-within _ _ (root-amount factors sheet valid));
  }
  node-fits (nodes.Whole (wholes.NetPart risks.Property)) live = property-net-fits factors sheet valid
  node-fits (nodes.Whole (wholes.NetPart risks.Spread)) live = spread-net-fits factors sheet valid
  node-fits (nodes.Whole (wholes.NetPart risks.Concentration)) live = concentration-net-fits factors sheet valid
  node-fits (nodes.Liability name of_liabilities.Present) live = present-fits factors sheet valid name live
  node-fits (nodes.Currency currency (of_currencies.Scenario direction measures.Gross)) live = change-fits factors sheet valid currency direction
  node-fits (nodes.Currency currency (of_currencies.Scenario direction measures.Net)) live = change-net-fits factors sheet valid currency direction
  node-fits (nodes.Currency currency of_currencies.Choice) live = change-choice-fits factors sheet valid currency
  node-fits (nodes.Currency currency (of_currencies.Picked measure)) live = change-picked-fits factors sheet valid currency measure
  node-fits (nodes.Whole (wholes.Currency measure)) live = currency-fits factors sheet valid measure
  node-fits (nodes.Whole wholes.Property) live = property-fits factors sheet valid
  node-fits (nodes.Security name of_securities.Spread) live = bond-fits factors sheet valid name live
  node-fits (nodes.Whole wholes.Spread) live = spread-fits factors sheet valid
  node-fits (nodes.Group name of_groups.Total) live = group-fits factors sheet valid name
  node-fits (nodes.Whole wholes.Assets) live = assets-fits factors sheet valid
  node-fits (nodes.Group name of_groups.ConcentrationSquare) live = square-fits factors sheet valid name live
  node-fits (nodes.Whole wholes.Concentration) live = concentration-fits factors sheet valid
  node-fits (nodes.Whole (wholes.Market measure)) live = market-fits factors sheet valid measure
  node-fits (nodes.Liability name (of_liabilities.Loss projection)) live = life.loss-fits factors sheet valid name projection live
  node-fits (nodes.Whole (wholes.BioScenario biometric projection measure)) live = life.stress-fits factors sheet valid biometric projection measure
  node-fits (nodes.Whole (wholes.Choice alternatives.LifeLapse)) live = life.life_choice-fits factors sheet valid
  node-fits (nodes.Whole (wholes.Choice alternatives.HealthLapse)) live = life.health_choice-fits factors sheet valid
  node-fits (nodes.Whole (wholes.Picked alternatives.LifeLapse measure)) live = life.life_picked-fits factors sheet valid measure
  node-fits (nodes.Whole (wholes.Picked alternatives.HealthLapse measure)) live = life.health_picked-fits factors sheet valid measure
  node-fits (nodes.Whole (wholes.Life measure)) live = life.life-fits factors sheet valid measure
  node-fits (nodes.Whole (wholes.Slt measure)) live = life.slt-fits factors sheet valid measure
  node-fits (nodes.Group name of_groups.Loss) live = defaults.group-fits factors sheet valid name
  node-fits (nodes.Whole (wholes.ClassLoss class)) live = defaults.class-fits factors sheet valid class
  node-fits (nodes.Whole (wholes.ClassSquare class)) live = defaults.squares-fit factors sheet valid class
  node-fits (nodes.Whole wholes.Variance) live = defaults.variance-fits factors sheet valid
  node-fits (nodes.Whole wholes.DefaultBand) live = defaults.band-fits factors sheet valid
  node-fits (nodes.Whole wholes.DefaultType1) live = defaults.type1-fits factors sheet valid
  node-fits (nodes.Whole wholes.DefaultType2) live = defaults.type2-fits factors sheet valid
  node-fits (nodes.Whole wholes.Default) live = defaults.default-fits factors sheet valid
  node-fits (nodes.Whole (wholes.NetPart risks.Default)) live = defaults.net-fits factors sheet valid
  node-fits (nodes.Whole (wholes.NetPart risks.HealthCatastrophe)) live = nonlife.health_net-fits factors known sheet valid
  node-fits (nodes.Whole (wholes.Segment segment)) live = nonlife.segment-fits factors known sheet valid segment
  node-fits (nodes.Whole (wholes.PremiumReserve set)) live = nonlife.premium_reserve-fits factors known sheet valid set
  node-fits (nodes.Whole (wholes.CatCharge key)) live = nonlife.charge-fits factors known sheet valid key
  node-fits (nodes.Whole (wholes.Lapse set)) live = nonlife.lapse-fits factors known sheet valid set
  node-fits (nodes.Whole wholes.Natural) live = nonlife.natural-fits factors known sheet valid
  node-fits (nodes.Whole wholes.ManMade) live = nonlife.man_made-fits factors known sheet valid
  node-fits (nodes.Whole wholes.NonlifeCatastrophe) live = nonlife.catastrophe-fits factors known sheet valid
  node-fits (nodes.Whole wholes.HealthCatastrophe) live = nonlife.health_catastrophe-fits factors known sheet valid
  node-fits (nodes.Whole (wholes.Nslt measure)) live = nonlife.nslt-fits factors known sheet valid measure
  node-fits (nodes.Whole (wholes.Health measure)) live = loss.module-health-fits factors known sheet valid _ _ _ _ (others-within factors sheet valid) measure
  node-fits (nodes.Whole (wholes.Nonlife measure)) live = nonlife.nonlife-fits factors known sheet valid measure
  node-fits (nodes.Whole wholes.Intangible) live = loss.intangible-fits factors known sheet valid
  node-fits (nodes.Whole (wholes.Bscr measure)) live = loss.bscr-fits factors known sheet valid _ _ _ _ (others-within factors sheet valid) measure
  node-fits (nodes.Whole (wholes.OpPart part)) live = loss.operational-fits factors known sheet valid _ _ _ _ (others-within factors sheet valid) part
  node-fits (nodes.Whole (wholes.Adjust adjustment)) live = loss.adjustment-fits factors known sheet valid _ _ _ _ (others-within factors sheet valid) adjustment
  node-fits (nodes.Whole wholes.Scr) live = loss.requirement-fits factors known sheet valid _ _ _ _ (others-within factors sheet valid)
  node-fits (nodes.Whole wholes.Diversification) live = loss.diversification-fits factors known sheet valid _ _ _ _ (others-within factors sheet valid)
