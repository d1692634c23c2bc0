-- The worked figures cover their rules, since they are what these give, and none that is a part of a root is below 0.
use Rattle.std.proofs.Common.{◌≡◌, ℕ, true, List, [], Option, Some, sym, subst, arith}
use Rattle.std.specs.Option.{option_map_or}
use Rattle.std.proofs.lemmas.Bool.{true≢false}
use Rattle.std.proofs.lemmas.Int.{ints}
use Rattle.scr_num.specs.Rounding.{Ends}
use Rattle.scr_agg.specs.Unbeaten.{Covers}
use Rattle.scr_factors.specs.Values.{FactorValues, IsInForm}
use Rattle.scr_sheet.specs.BalanceSheet.{position_of}
use Rattle.scr_sheet.specs.Validity.{Valid}
use Rattle.scr_sheet.specs.declared.{keys.Projection.Projection, rows.Liability.Liability, rows.Position.Position, sheet.BalanceSheet.BalanceSheet}
use Rattle.scr_nodes.specs.declared.node.Alternatives.TheVariants as alternatives
use Rattle.scr_nodes.specs.declared.{node.Direction.Direction, node.Node.Node}
use Rattle.scr_nodes.specs.declared.node.Direction.TheVariants as directions
use Rattle.scr_nodes.specs.declared.node.Measure.TheVariants as measures
use Rattle.scr_nodes.specs.declared.node.Node.TheVariants as nodes
use Rattle.scr_nodes.specs.declared.node.OfLiability.TheVariants as of_liabilities
use Rattle.scr_nodes.specs.declared.node.OfSecurity.TheVariants as of_securities
use Rattle.scr_nodes.specs.declared.node.Risk.TheVariants as risks
use Rattle.scr_nodes.specs.declared.node.Whole.TheVariants as wholes
use Rattle.scr_nodes.specs.Own.{Valued}
use Rattle.scr_nodes.specs.OwnOf.{nothing_paid, own_of, paid_by_liability, paid_by_security, valued}
use Rattle.scr_nodes.specs.Rows.{liability_of, rates_of}
use Rattle.scr_discounts.specs.Discounts.{discounts_at}
use Rattle.scr_discounts.specs.Kept.{AreDiscountsAt}
use Rattle.scr_discounts.proofs.CurveRows.{at-rates}
use Rattle.scr_rules.specs.Discounts.{own_discounts}
use Rattle.scr_rules.specs.Worked.{worked}
use Rattle.scr_rules.proofs.DefaultSizes as defaults
use Rattle.scr_rules.proofs.Equations.{worked-equation}
use Rattle.scr_rules.proofs.LifeSizes as life
use Rattle.scr_rules.proofs.LossSizes as loss
use Rattle.scr_rules.proofs.MarketSizes as market
use Rattle.scr_rules.proofs.ModulesTogether.{others-within}
use Rattle.scr_rules.proofs.NonlifeSizes as nonlife
use Rattle.scr_rules.proofs.Payments.{liability-fits, liability-known, security-fits, security-known}
use Rattle.scr_rules.proofs.Sizes as sizes
use Rattle.scr_exact.specs.Covering.{AreCovering, AreNotNegative, is_part_of_market, is_part_of_modules}

-- what a rule gives covers it
covers-own : (e due : Ends) → e ≡ due → Covers e due
covers-own e due is = subst (Covers e) is (record { low = omega (arith, ints); high = omega (arith, ints) })

module _ (factors : FactorValues) (sheet : BalanceSheet) (valid : Valid sheet) where
  abbrev nothing_valued : Valued
  nothing_valued = record { asof = sheet.numbers.asof.number; payments = []; rates = [] }

  security-discounts : (direction : Direction) (name : List ℕ) (p : Position) → position_of name sheet.securities ≡ Some p
      → AreDiscountsAt (rates_of p.security.currency sheet) (own_discounts (own_of factors sheet (nodes.Security name (of_securities.UnitLoss direction))))
  security-discounts direction name p is =
      subst (λ (found : Option Position). AreDiscountsAt (rates_of p.security.currency sheet) (discounts_at (option_map_or (paid_by_security sheet direction) found (nothing_paid sheet direction)).rates)) (sym is)
      (at-rates (rates_of p.security.currency sheet) (security-fits sheet valid direction p (security-known sheet valid name p is)).rates)

  liability-discounts : (name : List ℕ) (l : Liability) → liability_of name sheet.liabilities ≡ Some l → AreDiscountsAt (rates_of l.currency sheet) (discounts_at (rates_of l.currency sheet))
  liability-discounts name l is = at-rates (rates_of l.currency sheet) (liability-fits sheet valid directions.Up l (liability-known sheet valid name l is)).rates

  cost-discounts : (direction : Direction) (name : List ℕ) (l : Liability) → liability_of name sheet.liabilities ≡ Some l
      → AreDiscountsAt (rates_of l.currency sheet) (own_discounts (own_of factors sheet (nodes.Liability name (of_liabilities.Rate direction))))
  cost-discounts direction name l is =
      subst (λ (found : Option Liability). AreDiscountsAt (rates_of l.currency sheet) (discounts_at (option_map_or (paid_by_liability sheet direction) found (nothing_paid sheet direction)).rates)) (sym is)
      (liability-discounts name l is)

  worth-discounts : (name : List ℕ) (l : Liability) → liability_of name sheet.liabilities ≡ Some l
      → AreDiscountsAt (rates_of l.currency sheet) (own_discounts (own_of factors sheet (nodes.Liability name of_liabilities.Present)))
  worth-discounts name l is =
      subst (λ (found : Option Liability). AreDiscountsAt (rates_of l.currency sheet) (discounts_at (option_map_or (valued sheet) found nothing_valued).rates)) (sym is) (liability-discounts name l is)

  excess-discounts : (projection : Projection) (name : List ℕ) (l : Liability) → liability_of name sheet.liabilities ≡ Some l
      → AreDiscountsAt (rates_of l.currency sheet) (own_discounts (own_of factors sheet (nodes.Liability name (of_liabilities.Loss projection))))
  excess-discounts projection name l is =
      subst (λ (found : Option Liability). AreDiscountsAt (rates_of l.currency sheet) (discounts_at (option_map_or (valued sheet) found nothing_valued).rates)) (sym is) (liability-discounts name l is)

  pub worked-covering : AreCovering factors sheet (worked factors sheet)
  worked-covering = record {
    discounts = λ (node : Node). own_discounts (own_of factors sheet node);
    losing = security-discounts;
    costing = cost-discounts;
    owing = worth-discounts;
    stressed = excess-discounts;
    covers = λ node. covers-own _ _ (worked-equation factors sheet valid node);
    whole = λ node is. worked-equation factors sheet valid node;
    choices = λ node is. worked-equation factors sheet valid node;
  }

  -- ---- parts of roots
  pub market-least : AreNotNegative is_part_of_market (worked factors sheet)
  market-least (nodes.Whole (wholes.Picked alternatives.Interest measure)) of = (market.interest-amount factors sheet valid measure).not_negative
  market-least (nodes.Whole (wholes.EquityPart kind)) of = (sizes.part-amount factors sheet valid kind).not_negative
  market-least (nodes.Whole wholes.EquityRoot) of = (sizes.root-amount factors sheet valid).not_negative
  market-least (nodes.Whole wholes.Property) of = (market.property-amount factors sheet valid).not_negative
  market-least (nodes.Whole wholes.Spread) of = (market.spread-amount factors sheet valid).not_negative
  market-least (nodes.Whole wholes.Concentration) of = (market.concentration-amount factors sheet valid).not_negative
  market-least (nodes.Whole (wholes.NetPart risks.Equity)) of = (market.equity-amount factors sheet valid measures.Net).not_negative
  market-least (nodes.Whole (wholes.NetPart risks.Property)) of =
      (market.part-amount factors sheet valid risks.Property measures.Net _ (market.property-amount factors sheet valid)).not_negative
  market-least (nodes.Whole (wholes.NetPart risks.Spread)) of =
      (market.part-amount factors sheet valid risks.Spread measures.Net _ (market.spread-amount factors sheet valid)).not_negative
  market-least (nodes.Whole (wholes.NetPart risks.Concentration)) of =
      (market.part-amount factors sheet valid risks.Concentration measures.Net _ (market.concentration-amount factors sheet valid)).not_negative
  market-least (nodes.Whole (wholes.Currency measure)) of = (market.currency-amount factors sheet valid measure).not_negative
  market-least node of = absurd (true≢false (sym of))

module _ (factors : FactorValues) (known : IsInForm factors) (sheet : BalanceSheet) (valid : Valid sheet) where
  pub modules-least : AreNotNegative is_part_of_modules (worked factors sheet)
  modules-least (nodes.Whole wholes.DefaultType1) of = (defaults.type1-amount factors sheet valid).not_negative
  modules-least (nodes.Whole wholes.DefaultType2) of = (defaults.type2-amount factors sheet valid).not_negative
  modules-least (nodes.Whole (wholes.BioScenario biometric projection measure)) of = (life.stress-amount factors sheet valid biometric projection measure).not_negative
  modules-least (nodes.Whole (wholes.Picked alternatives.LifeLapse measure)) of = (life.life_lapse-amount factors sheet valid measure).not_negative
  modules-least (nodes.Whole (wholes.Picked alternatives.HealthLapse measure)) of = (life.health_lapse-amount factors sheet valid measure).not_negative
  modules-least (nodes.Whole (wholes.Segment segment)) of = (nonlife.segment-amount factors known sheet valid segment).not_negative
  modules-least (nodes.Whole (wholes.PremiumReserve set)) of = (nonlife.premium_reserve-amount factors known sheet valid set).not_negative
  modules-least (nodes.Whole (wholes.CatCharge key)) of = (nonlife.charge-amount factors known sheet valid key).not_negative
  modules-least (nodes.Whole wholes.Natural) of = (nonlife.natural-amount factors known sheet valid).not_negative
  modules-least (nodes.Whole wholes.ManMade) of = (nonlife.man_made-amount factors known sheet valid).not_negative
  modules-least (nodes.Whole wholes.NonlifeCatastrophe) of = (nonlife.catastrophe-amount factors known sheet valid).not_negative
  modules-least (nodes.Whole wholes.HealthCatastrophe) of = (nonlife.health_catastrophe-amount factors known sheet valid).not_negative
  modules-least (nodes.Whole (wholes.NetPart risks.HealthCatastrophe)) of = (nonlife.health_part-amount factors known sheet valid measures.Net).not_negative
  modules-least (nodes.Whole (wholes.Slt measure)) of = ((others-within factors sheet valid).slt_amount measure).not_negative
  modules-least (nodes.Whole (wholes.Nslt measure)) of = (nonlife.nslt-amount factors known sheet valid measure).not_negative
  modules-least (nodes.Whole (wholes.Market measure)) of = (market.market-amount factors sheet valid measure).not_negative
  modules-least (nodes.Whole wholes.Default) of = (defaults.default-amount factors sheet valid).not_negative
  modules-least (nodes.Whole (wholes.NetPart risks.Default)) of = (defaults.net-amount factors sheet valid).not_negative
  modules-least (nodes.Whole (wholes.Life measure)) of = (loss.modules-amounts factors known sheet valid _ _ _ _ (others-within factors sheet valid) measure).1.1.0.not_negative
  modules-least (nodes.Whole (wholes.Health measure)) of = (loss.modules-amounts factors known sheet valid _ _ _ _ (others-within factors sheet valid) measure).1.1.1.0.not_negative
  modules-least (nodes.Whole (wholes.Nonlife measure)) of = (loss.modules-amounts factors known sheet valid _ _ _ _ (others-within factors sheet valid) measure).1.1.1.1.0.not_negative
  modules-least node of = absurd (true≢false (sym of))
