use Rattle.std.proofs.Common.{◌∙◌, ◌++◌, ◌∷◌, [], ap}
use Rattle.scr_block_graph.specs.Graph.{block_point}
use Rattle.scr_block_graph.proofs.Loops.{next-number}
use Rattle.scr_block_graph.proofs.turns.push_all.Goals as goal

pub loop-index-preserved : goal.loop-index-preserved
loop-index-preserved c =
    next-number (block_point c.args.turn.now.sum c.args.level) c.loop-index.index c.loop-index.list.items _ c.args.list.now.items
    c.loop-index.invariant (c.in_ok-push_point.ensures ∙ ap (λ p. c.loop-index.list.items ++ p ∷ []) c.block.ensures)
