use Rattle.std.proofs.Common.{sym, ap, map, ◌∙◌, slice_get}
use Rattle.scr_sheet.specs.declared.sheet.BalanceSheet.{BalanceSheet}
use Rattle.scr_nodes.specs.Sources.{sources_of}
use Rattle.scr_block_graph.specs.Books.{rolled_of}
use Rattle.scr_block_graph.specs.declared.point.Point.TheVariants as points
use Rattle.scr_block_graph.proofs.Kept.{sources-plain, sources-summed}
use Rattle.scr_block_graph.proofs.graph.figure_source.Goals as goal

pub returns-in-Some : goal.returns-in-Some
returns-in-Some c =
    c.summed_source.ensures
    ∙ ap (λ list. slice_get list c.args.place) (sym (sources-summed (rolled_of c.args.book.now) c.args.node.now c.in-Some.first (sym c.first_sum.ensures ∙ c.in-Some.is)))

pub returns-in-None : goal.returns-in-None
returns-in-None c =
    c.plain_source.ensures
    ∙ ap (λ (sheet : BalanceSheet). slice_get (map points.Figure (sources_of sheet c.args.node.now)) c.args.place) c.sheet.ensures.sheet
    ∙ ap (λ list. slice_get list c.args.place) (sym (sources-plain (rolled_of c.args.book.now) c.args.node.now (sym c.first_sum.ensures ∙ c.in-None.is)))
