-- The exact figures of the Basic Solvency Capital Requirement, of operational risk, of the adjustments and of the Solvency
-- Capital Requirement, in cents (Articles 87 and 203 to 207 of Delegated Regulation (EU) 2015/35 and Article 103 of
-- Directive 2009/138/EC). Nothing is rounded.
use Rattle.std.specs.Prelude.{pos, List, [], ◌∷◌, slice_index_or}
use Rattle.scr_num.specs.Figure.{Figure}
use Rattle.scr_loss.specs.Absorption.{adj_tp_figure, adj_dt_figure, scr_figure}
use Rattle.scr_loss.specs.Bscr.{bscr_figure, diversification_figure}
use Rattle.scr_loss.specs.Operational.{prem_figure, prov_figure, cap_figure, op_figure}
use Rattle.scr_profile.specs.declared.operational.OpInput.{OpInput}
use Rattle.scr_factors.specs.Values.{FactorValues}
use Rattle.scr_sheet.specs.declared.numbers.Numbers.{Numbers}
use Rattle.scr_sheet.specs.declared.sheet.BalanceSheet.{BalanceSheet}
use Rattle.scr_nodes.specs.declared.node.Adjustment.{Adjustment}
use Rattle.scr_nodes.specs.declared.node.Adjustment.TheVariants as adjustments
use Rattle.scr_nodes.specs.declared.node.Measure.{Measure}
use Rattle.scr_nodes.specs.declared.node.Measure.TheVariants as measures
use Rattle.scr_nodes.specs.declared.node.Operational.{Operational}
use Rattle.scr_nodes.specs.declared.node.Operational.TheVariants as operations
use Rattle.scr_nodes.specs.declared.node.Risk.TheVariants as risks
use Rattle.scr_exact.specs.DefaultExact.{default_exact}
use Rattle.scr_exact.specs.LifeExact.{life_exact}
use Rattle.scr_exact.specs.MarketExact.{market_exact}
use Rattle.scr_exact.specs.Measured.{absorbed_part}
use Rattle.scr_exact.specs.NonlifeExact.{nonlife_exact, health_exact}

-- what operational risk is reckoned from
abbrev pub operations_of : Numbers → OpInput
operations_of numbers = record {
  tpl = slice_index_or numbers.provisions 0 (pos 0);
  tpul = slice_index_or numbers.provisions 1 (pos 0);
  tpn = slice_index_or numbers.provisions 2 (pos 0);
  el = slice_index_or numbers.earned 0 0;
  eul = slice_index_or numbers.earned 1 0;
  pel = slice_index_or numbers.earned 2 0;
  peul = slice_index_or numbers.earned 3 0;
  en = slice_index_or numbers.earned 4 0;
  pen = slice_index_or numbers.earned 5 0;
  expul = slice_index_or numbers.earned 6 0;
}

module _ (factors : FactorValues) (sheet : BalanceSheet) where
  -- the modules of the Basic Solvency Capital Requirement (Annex IV of Directive 2009/138/EC)
  abbrev pub modules_exact : Measure → List Figure
  modules_exact measure =
      market_exact factors sheet measure ∷ absorbed_part sheet measure risks.Default (default_exact sheet)
      ∷ life_exact sheet measure ∷ health_exact factors sheet measure ∷ nonlife_exact factors sheet ∷ []

  -- the Basic Solvency Capital Requirement (Articles 87 and 203)
  unfoldable pub bscr_exact : Measure → Figure
  bscr_exact measure = bscr_figure (modules_exact measure) sheet.numbers.intangible

  -- what the modules sum to above the root over them
  unfoldable pub diversification_exact : Figure
  diversification_exact = diversification_figure (modules_exact measures.Gross)

  -- ---- operational risk (Article 204)

  -- by premiums, by provisions, the cap, and all
  unfoldable pub operational_exact : Operational → Figure
  operational_exact operations.Premiums = prem_figure (operations_of sheet.numbers)
  operational_exact operations.Provisions = prov_figure (operations_of sheet.numbers)
  operational_exact operations.Cap = cap_figure (bscr_exact measures.Gross)
  operational_exact operations.Charge =
      let operation = operations_of sheet.numbers in
      op_figure (cap_figure (bscr_exact measures.Gross)) (prem_figure operation) (prov_figure operation) operation.expul

  -- ---- adjustments (Articles 206 and 207), and all (Article 103 of the Directive)

  -- by the loss-absorbing capacity of technical provisions
  unfoldable pub provisions_exact : Figure
  provisions_exact = adj_tp_figure (bscr_exact measures.Gross) (bscr_exact measures.Net) sheet.numbers.fdb

  -- by that, and by the loss-absorbing capacity of deferred taxes
  unfoldable pub adjustment_exact : Adjustment → Figure
  adjustment_exact adjustments.TechnicalProvisions = provisions_exact
  adjustment_exact adjustments.DeferredTaxes =
      adj_dt_figure (bscr_exact measures.Gross) provisions_exact (operational_exact operations.Charge) sheet.numbers.tax
      sheet.numbers.cap

  -- the Solvency Capital Requirement
  unfoldable pub scr_exact : Figure
  scr_exact =
      scr_figure (bscr_exact measures.Gross) (adjustment_exact adjustments.TechnicalProvisions)
      (adjustment_exact adjustments.DeferredTaxes) (operational_exact operations.Charge)
