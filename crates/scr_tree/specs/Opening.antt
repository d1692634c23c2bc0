-- Which figures and blocks are open choices themselves (this project's own): a block is none.
use Rattle.std.specs.Prelude.{Bool, false}
use Rattle.scr_num.specs.Rounding.{Ends}
use Rattle.scr_tree.specs.Figures.{opens}
use Rattle.scr_factors.specs.Values.{FactorValues}
use Rattle.scr_sheet.specs.declared.sheet.BalanceSheet.{BalanceSheet}
use Rattle.scr_rules.specs.Close.{is_open_choice}
use Rattle.scr_block_graph.specs.declared.point.Point.{Point}
use Rattle.scr_block_graph.specs.declared.point.Point.TheVariants as points

-- Whether a point is itself an open choice; a Block never is (own).
abbrev pub opens_at : FactorValues → BalanceSheet → Point → Bool
opens_at factors sheet (points.Figure node) = is_open_choice factors sheet node
opens_at factors sheet (points.Block block) = false

-- the ends are the mask of a choice that is open
abbrev pub opens_in : Point → Ends → Bool
opens_in (points.Figure node) mask = opens node mask
opens_in (points.Block block) mask = false
