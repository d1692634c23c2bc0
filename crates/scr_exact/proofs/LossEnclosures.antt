-- The figures of the Basic Solvency Capital Requirement, of operational risk, of the adjustments and of the Solvency Capital
-- Requirement enclose the exact ones, where they cover their rules.
use Rattle.std.proofs.Common.{ℕ, ◌*◌, List, map, ℤ, pos, ◌-ℤ◌, ◌≤ℤ◌, refl, arith}
use Rattle.std.specs.Prelude.{slice_index_or}
use Rattle.std.proofs.lemmas.Int.{ints}
use Rattle.scr_num.specs.Rounding.{Ends}
use Rattle.scr_agg.specs.Unbeaten.{Covers}
use Rattle.scr_num.specs.Figure.{Figure}
use Rattle.scr_num.specs.Sums.{EncloseEach, sum_ends}
use Rattle.scr_num.proofs.Enclosing.{Encloses-wider}
use Rattle.scr_loss.specs.BscrEnds.{LowsNotNegative, bscr_ends, known_diversification_ends}
use Rattle.scr_loss.specs.Bscr.{intangible_figure}
use Rattle.scr_loss.specs.Operational.{prem_figure, prov_figure, cap_figure}
use Rattle.scr_loss.proofs.AdjustmentBounds.{adj_tp-encloses, adj_dt-encloses, scr-encloses}
use Rattle.scr_loss.proofs.BscrBounds.{intangible-encloses, bscr-encloses, known-encloses}
use Rattle.scr_loss.proofs.OperationalBounds.{prem-encloses, prov-encloses, cap-encloses, op-encloses}
use Rattle.scr_factors.specs.Values.{FactorValues, IsInForm}
use Rattle.scr_sheet.specs.Validity.{Valid}
use Rattle.scr_sheet.specs.declared.sheet.BalanceSheet.{BalanceSheet}
use Rattle.scr_nodes.specs.declared.{node.Adjustment.Adjustment, node.Measure.Measure, node.Node.Node, node.Operational.Operational}
use Rattle.scr_nodes.specs.declared.node.Adjustment.TheVariants as adjustments
use Rattle.scr_nodes.specs.declared.node.Measure.TheVariants as measures
use Rattle.scr_nodes.specs.declared.node.Node.TheVariants as nodes
use Rattle.scr_nodes.specs.declared.node.Whole.TheVariants as wholes
use Rattle.scr_nodes.specs.declared.node.Operational.TheVariants as operations
use Rattle.scr_nodes.specs.declared.node.Risk.TheVariants as risks
use Rattle.scr_nodes.specs.OwnOf.{premiums_of, provisions_of}
use Rattle.scr_nodes.specs.Sources.{risk_part, modules}
use Rattle.scr_exact.specs.DefaultExact.{default_exact}
use Rattle.scr_exact.specs.LifeExact.{life_exact, slt_exact}
use Rattle.scr_exact.specs.MarketExact.{market_exact}
use Rattle.scr_exact.specs.Measured.{absorbed_part}
use Rattle.scr_exact.specs.NonlifeExact.{health_exact}
use Rattle.scr_exact.specs.LossExact.{modules_exact, bscr_exact, diversification_exact, operations_of, operational_exact, provisions_exact, adjustment_exact, scr_exact}
use Rattle.scr_exact.specs.Covering.{AreCovering, AreNotNegative, is_part_of_modules}
use Rattle.scr_exact.proofs.Covered.{covered, due}
use Rattle.scr_exact.proofs.NonlifeEnclosures.{Holds, nonlife-holds, health-holds}

-- less a requirement that covers another, a sum is as wide or wider
known-wider : (list : List Ends) (wide narrow : Ends) (intangible : ℕ) (f : Figure) → Covers wide narrow → Holds (known_diversification_ends list narrow intangible) f
    → Holds (known_diversification_ends list wide intangible) f
known-wider list wide narrow intangible f reach h =
    Encloses-wider 1000 _ _ _ _ f (less (sum_ends list).low narrow.high wide.high (pos (800 * intangible)) reach.high)
    (less (sum_ends list).high wide.low narrow.low (pos (800 * intangible)) reach.low) h
  where
    less : (s a b i : ℤ) → a ≤ℤ b → (s -ℤ (b -ℤ i)) ≤ℤ (s -ℤ (a -ℤ i))
    less s a b i le = omega (arith, ints, le)

-- the figures of market, default and life risk, and of health that is similar to life, enclose the exact ones
pub record AreOthersEnclosed (factors : FactorValues) (sheet : BalanceSheet) (figure : Node → Ends) : Type 0 where
  pub market_holds : (measure : Measure) → Holds (figure (nodes.Whole (wholes.Market measure))) (market_exact factors sheet measure)
  pub default_holds : (measure : Measure) → Holds (figure (risk_part risks.Default measure)) (absorbed_part sheet measure risks.Default (default_exact sheet))
  pub life_holds : (measure : Measure) → Holds (figure (nodes.Whole (wholes.Life measure))) (life_exact sheet measure)
  pub slt_holds : (measure : Measure) → Holds (figure (nodes.Whole (wholes.Slt measure))) (slt_exact sheet measure)

module _ (factors : FactorValues) (known : IsInForm factors) (sheet : BalanceSheet) (valid : Valid sheet) (figure : Node → Ends) (covering : AreCovering factors sheet figure)
    (least : AreNotNegative is_part_of_modules figure) where
  reaches : (node : Node) (f : Figure) → Holds (due factors sheet valid figure covering node) f → Holds (figure node) f
  reaches node f h = covered factors sheet valid figure covering 1000 node f h

  pub intangible-holds : Holds (figure (nodes.Whole wholes.Intangible)) (intangible_figure sheet.numbers.intangible)
  intangible-holds = reaches (nodes.Whole wholes.Intangible) _ (intangible-encloses sheet.numbers.intangible)

  module _ (enclosed : AreOthersEnclosed factors sheet figure) where
    default-low : (measure : Measure) → pos 0 ≤ℤ (figure (risk_part risks.Default measure)).low
    default-low measures.Gross = least (nodes.Whole wholes.Default) refl
    default-low measures.Net = least (nodes.Whole (wholes.NetPart risks.Default)) refl

    lows : (measure : Measure) → LowsNotNegative (map figure (modules measure))
    lows measure =
        (least (nodes.Whole (wholes.Market measure)) refl, (default-low measure, (least (nodes.Whole (wholes.Life measure)) refl, (least (nodes.Whole (wholes.Health measure)) refl, (least (nodes.Whole (wholes.Nonlife measure)) refl, tt)))))

    pub module-health-holds : (measure : Measure) → Holds (figure (nodes.Whole (wholes.Health measure))) (health_exact factors sheet measure)
    module-health-holds measure =
        health-holds factors known sheet valid figure covering least measure (enclosed.slt_holds measure)

    modules-hold : (measure : Measure) → EncloseEach 1000 (map figure (modules measure)) (modules_exact factors sheet measure)
    modules-hold measure = (
      enclosed.market_holds measure,
      (
        enclosed.default_holds measure,
        (enclosed.life_holds measure, (module-health-holds measure, (nonlife-holds factors known sheet valid figure covering least measure, tt))),
      ),
    )

    pub bscr-holds : (measure : Measure) → Holds (figure (nodes.Whole (wholes.Bscr measure))) (bscr_exact factors sheet measure)
    unfolding bscr_exact
    bscr-holds measure =
        reaches (nodes.Whole (wholes.Bscr measure)) _
        (bscr-encloses (map figure (modules measure)) (modules_exact factors sheet measure) sheet.numbers.intangible refl (lows measure) (modules-hold measure))

    pub diversification-holds : Holds (figure (nodes.Whole wholes.Diversification)) (diversification_exact factors sheet)
    unfolding diversification_exact
    diversification-holds =
        reaches (nodes.Whole wholes.Diversification) _
        (known-wider (map figure (modules measures.Gross)) (figure (nodes.Whole (wholes.Bscr measures.Gross))) (bscr_ends (map figure (modules measures.Gross)) sheet.numbers.intangible) sheet.numbers.intangible _
        (covering.covers (nodes.Whole (wholes.Bscr measures.Gross)))
        (known-encloses (map figure (modules measures.Gross)) (modules_exact factors sheet measures.Gross) sheet.numbers.intangible refl (lows measures.Gross) (modules-hold measures.Gross)))

    -- ---- operational risk
    premiums-hold : Holds (figure (nodes.Whole (wholes.OpPart operations.Premiums))) (prem_figure (operations_of sheet.numbers))
    premiums-hold = reaches (nodes.Whole (wholes.OpPart operations.Premiums)) _ (prem-encloses (premiums_of sheet.numbers))

    provisions-hold : Holds (figure (nodes.Whole (wholes.OpPart operations.Provisions))) (prov_figure (operations_of sheet.numbers))
    provisions-hold = reaches (nodes.Whole (wholes.OpPart operations.Provisions)) _ (prov-encloses (provisions_of sheet.numbers))

    cap-holds : Holds (figure (nodes.Whole (wholes.OpPart operations.Cap))) (cap_figure (bscr_exact factors sheet measures.Gross))
    cap-holds = reaches (nodes.Whole (wholes.OpPart operations.Cap)) _ (cap-encloses (figure (nodes.Whole (wholes.Bscr measures.Gross))) _ (bscr-holds measures.Gross))

    pub operational-holds : (part : Operational) → Holds (figure (nodes.Whole (wholes.OpPart part))) (operational_exact factors sheet part)
    unfolding operational_exact
    operational-holds operations.Premiums = premiums-hold
    operational-holds operations.Provisions = provisions-hold
    operational-holds operations.Cap = cap-holds
    operational-holds operations.Charge =
        reaches (nodes.Whole (wholes.OpPart operations.Charge)) _
        (op-encloses (figure (nodes.Whole (wholes.OpPart operations.Cap))) (figure (nodes.Whole (wholes.OpPart operations.Premiums))) (figure (nodes.Whole (wholes.OpPart operations.Provisions))) _ _ _
        (slice_index_or sheet.numbers.earned 6 0) cap-holds premiums-hold provisions-hold)

    -- ---- adjustments, and all
    absorbing-holds : Holds (figure (nodes.Whole (wholes.Adjust adjustments.TechnicalProvisions))) (provisions_exact factors sheet)
    unfolding provisions_exact
    absorbing-holds =
        reaches (nodes.Whole (wholes.Adjust adjustments.TechnicalProvisions)) _
        (adj_tp-encloses (figure (nodes.Whole (wholes.Bscr measures.Gross))) (figure (nodes.Whole (wholes.Bscr measures.Net))) _ _ sheet.numbers.fdb (bscr-holds measures.Gross) (bscr-holds measures.Net))

    pub adjustment-holds : (adjustment : Adjustment) → Holds (figure (nodes.Whole (wholes.Adjust adjustment))) (adjustment_exact factors sheet adjustment)
    unfolding adjustment_exact
    adjustment-holds adjustments.TechnicalProvisions = absorbing-holds
    adjustment-holds adjustments.DeferredTaxes =
        reaches (nodes.Whole (wholes.Adjust adjustments.DeferredTaxes)) _
        (adj_dt-encloses (figure (nodes.Whole (wholes.Bscr measures.Gross))) (figure (nodes.Whole (wholes.Adjust adjustments.TechnicalProvisions))) (figure (nodes.Whole (wholes.OpPart operations.Charge))) _ _ _
        sheet.numbers.tax sheet.numbers.cap (bscr-holds measures.Gross) absorbing-holds (operational-holds operations.Charge))

    pub scr-holds : Holds (figure (nodes.Whole wholes.Scr)) (scr_exact factors sheet)
    unfolding scr_exact
    scr-holds =
        reaches (nodes.Whole wholes.Scr) _
        (scr-encloses (figure (nodes.Whole (wholes.Bscr measures.Gross))) (figure (nodes.Whole (wholes.Adjust adjustments.TechnicalProvisions))) (figure (nodes.Whole (wholes.Adjust adjustments.DeferredTaxes)))
        (figure (nodes.Whole (wholes.OpPart operations.Charge))) _ _ _ _ (bscr-holds measures.Gross) (adjustment-holds adjustments.TechnicalProvisions)
        (adjustment-holds adjustments.DeferredTaxes) (operational-holds operations.Charge))
