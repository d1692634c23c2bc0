-- A requirement before or after absorption (Article 206(2) of Delegated Regulation (EU) 2015/35).
use Rattle.std.specs.Prelude.{ℕ}
use Rattle.scr_num.specs.Fraction.{Fraction}
use Rattle.scr_num.specs.Figure.{Figure}
use Rattle.scr_agg.specs.Absorbed.{net_figure}
use Rattle.scr_agg.specs.Choice.{Outcome}
use Rattle.scr_sheet.specs.Absorptions.{absorbed}
use Rattle.scr_sheet.specs.declared.sheet.BalanceSheet.{BalanceSheet}
use Rattle.scr_nodes.specs.declared.node.Measure.{Measure}
use Rattle.scr_nodes.specs.declared.node.Measure.TheVariants as measures
use Rattle.scr_nodes.specs.declared.node.Risk.{Risk}
use Rattle.scr_nodes.specs.OwnOf.{risk_key}

-- of an alternative
abbrev pub measured : Measure → Outcome → Fraction
measured measures.Gross outcome = outcome.gross
measured measures.Net outcome = outcome.net

-- of a figure, of which so many cents are absorbed
abbrev pub part_exact : Measure → Figure → ℕ → Figure
part_exact measures.Gross figure absorb = figure
part_exact measures.Net figure absorb = net_figure figure absorb

-- of a risk
abbrev pub absorbed_part : BalanceSheet → Measure → Risk → Figure → Figure
absorbed_part sheet measure risk figure = part_exact measure figure (absorbed (risk_key risk) sheet.numbers)
