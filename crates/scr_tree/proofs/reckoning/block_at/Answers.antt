use Rattle.std.proofs.Common.{Bool, ap₂, ◌∙◌}
use Rattle.scr_sum_tree.specs.declared.blocks.Level.TheVariants as levels
use Rattle.scr_num.specs.Rounding.{Ends}
use Rattle.scr_block_graph.specs.Graph.{block_point}
use Rattle.scr_block_graph.specs.declared.sum.Sum.TheVariants as sums
use Rattle.scr_tree.proofs.SquareBlocks.{figure-right, point-lives}
use Rattle.scr_tree.proofs.StillBlocks.{block-still}
use Rattle.scr_tree.proofs.reckoning.block_at.Goals as goal

pub added_over-requires-clause-at : goal.added_over-requires-clause-at
added_over-requires-clause-at c = c.requires.own

pub added_over-requires-clause-live : goal.added_over-requires-clause-live
added_over-requires-clause-live c =
    point-lives c.args.basis c.requires.basis c.args.figures.now c.args.number c.requires.ready (block_point sums.Squares levels.First c.args.index)
    c.requires.own

pub returns : goal.returns
returns c =
    figure-right c.args.basis c.requires.basis c.args.figures.now c.args.number c.requires.ready
    (block_point sums.Squares levels.First c.args.index) c.requires.own c.added_over.result c.added_over.ensures

pub returns-then-still : goal.returns-then-still
returns-then-still c = λ point at.
    ap₂ (λ (worked : Ends) (close : Bool). record { worked = worked; close = close }) c.nothing.ensures.span c.nothing.ensures.close
    ∙ block-still c.args.basis c.requires.basis (c.requires.still c.if-still.true) c.args.index c.args.number c.args.figures.now c.requires.ready
    c.requires.own point at
