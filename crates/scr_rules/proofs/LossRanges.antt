-- For a valid balance sheet the rules of the Basic Solvency Capital Requirement, of operational risk, of the adjustments and
-- of the Solvency Capital Requirement fit their own data and the worked figures of their sources.
use Rattle.std.proofs.Common.{ℕ, map, arith, lit≤}
use Rattle.scr_num.specs.Rounding.{Ends}
use Rattle.scr_factors.specs.Values.{FactorValues, IsInForm}
use Rattle.scr_sheet.specs.Validity.{Valid}
use Rattle.scr_sheet.specs.declared.sheet.BalanceSheet.{BalanceSheet}
use Rattle.scr_nodes.specs.declared.{node.Adjustment.Adjustment, node.Measure.Measure, node.Node.Node, node.Operational.Operational}
use Rattle.scr_nodes.specs.declared.node.Adjustment.TheVariants as adjustments
use Rattle.scr_nodes.specs.declared.node.Measure.TheVariants as measures
use Rattle.scr_nodes.specs.declared.node.Node.TheVariants as nodes
use Rattle.scr_nodes.specs.declared.node.Whole.TheVariants as wholes
use Rattle.scr_nodes.specs.declared.node.Operational.TheVariants as operations
use Rattle.scr_nodes.specs.OwnOf.{own_of}
use Rattle.scr_nodes.specs.Sources.{sources_of, modules, diversification_sources}
use Rattle.scr_rules.specs.Fits.{Fits}
use Rattle.scr_rules.specs.LossFits.{AreModules, MAX_REQUIREMENT}
use Rattle.scr_rules.specs.Worked.{worked}
use Rattle.scr_rules.proofs.LossSizes as sizes
use Rattle.scr_rules.proofs.NonlifeRanges.{amount-within, high-within, health-fits}

module _ (factors : FactorValues) (known : IsInForm factors) (sheet : BalanceSheet) (valid : Valid sheet) where
  abbrev figure : Node → Ends
  figure node = worked factors sheet node

  abbrev NodeFits : Node → Type 0
  NodeFits node = Fits (own_of factors sheet node) (map figure (sources_of sheet node))

  -- value of intangible assets
  pub intangible-fits : NodeFits (nodes.Whole wholes.Intangible)
  intangible-fits = record { small = omega (arith, valid.numbers.intangible) }

  -- where the other modules are within the limits of a valid book
  module _ (market default_risk life slt : ℕ) (within : sizes.AreOthersWithin figure market default_risk life slt) where
    pub module-health-fits : (measure : Measure) → NodeFits (nodes.Whole (wholes.Health measure))
    module-health-fits measure =
        let h = within.slt_amount measure in
        health-fits factors known sheet valid measure
        (record { not_negative = h.not_negative; ordered = h.ordered; low_size = omega (arith, within.together, h.low_size); high_size = omega (arith, within.together, h.high_size) })

    modules-fit : (measure : Measure) → AreModules (map figure (modules measure))
    modules-fit measure =
        let amounts = sizes.modules-amounts factors known sheet valid market default_risk life slt within measure in
        let high_0 = high-within _ _ amounts.0 in
        let high_1 = high-within _ _ amounts.1.0 in
        let high_2 = high-within _ _ amounts.1.1.0 in
        let high_3 = high-within _ _ amounts.1.1.1.0 in
        let high_4 = high-within _ _ amounts.1.1.1.1.0 in
        record {
          market = amounts.0.not_negative;
          default_risk = amounts.1.0.not_negative;
          life = amounts.1.1.0.not_negative;
          health = amounts.1.1.1.0.not_negative;
          nonlife = amounts.1.1.1.1.0.not_negative;
          highs = omega (arith, high_0, high_1, high_2, high_3, high_4, within.together);
        }

    pub bscr-fits : (measure : Measure) → NodeFits (nodes.Whole (wholes.Bscr measure))
    bscr-fits measure = record { amount = valid.numbers.intangible; modules = modules-fit measure }

    pub diversification-fits : NodeFits (nodes.Whole wholes.Diversification)
    diversification-fits = record {
      amount = valid.numbers.intangible;
      modules = with-basic (modules-fit measures.Gross);
      basic = sizes.bscr-within factors known sheet valid market default_risk life slt within measures.Gross;
    }
      where
        with-basic : AreModules (map figure (modules measures.Gross)) → AreModules (map figure diversification_sources)
        with-basic fit = record {
          market = fit.market;
          default_risk = fit.default_risk;
          life = fit.life;
          health = fit.health;
          nonlife = fit.nonlife;
          highs = fit.highs;
        }

    pub operational-fits : (part : Operational) → NodeFits (nodes.Whole (wholes.OpPart part))
    operational-fits operations.Premiums = sizes.premiums-within factors known sheet valid
    operational-fits operations.Provisions = sizes.provisions-within factors known sheet valid
    operational-fits operations.Cap = sizes.bscr-within factors known sheet valid market default_risk life slt within measures.Gross
    operational-fits operations.Charge = record {
      amount = sizes.expenses-within factors known sheet valid;
      premiums = sizes.wider-within _ MAX_REQUIREMENT _ (lit≤ tt) (sizes.premiums-size factors known sheet valid);
      provisions = amount-within _ MAX_REQUIREMENT _ (lit≤ tt) (sizes.provisions-amount factors known sheet valid);
      most = amount-within _ MAX_REQUIREMENT _ (lit≤ tt) (sizes.cap-amount factors known sheet valid market default_risk life slt within);
    }

    pub adjustment-fits : (adjustment : Adjustment) → NodeFits (nodes.Whole (wholes.Adjust adjustment))
    adjustment-fits adjustments.TechnicalProvisions = record {
      amount = valid.numbers.fdb;
      gross = sizes.bscr-within factors known sheet valid market default_risk life slt within measures.Gross;
      net = sizes.bscr-within factors known sheet valid market default_risk life slt within measures.Net;
    }
    adjustment-fits adjustments.DeferredTaxes = record {
      share = sizes.tax-within factors known sheet valid;
      amount = valid.numbers.cap;
      basic = sizes.bscr-within factors known sheet valid market default_risk life slt within measures.Gross;
      provisions = sizes.absorbing-within factors known sheet valid market default_risk life slt within;
      operational = sizes.charge-within factors known sheet valid market default_risk life slt within;
    }

    pub requirement-fits : NodeFits (nodes.Whole wholes.Scr)
    requirement-fits = record {
      basic = sizes.bscr-within factors known sheet valid market default_risk life slt within measures.Gross;
      provisions = sizes.absorbing-within factors known sheet valid market default_risk life slt within;
      taxes = sizes.taxed-within factors known sheet valid market default_risk life slt within;
      operational = sizes.charge-within factors known sheet valid market default_risk life slt within;
    }
