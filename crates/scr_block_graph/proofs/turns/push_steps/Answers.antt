use Rattle.std.proofs.Common.{◌∙◌, ◌++◌, ap, map, arith}
use Rattle.std.proofs.lemmas.List.{take_all}
use Rattle.scr_block_graph.specs.Graph.{block_point}
use Rattle.scr_block_graph.specs.Turns.{changed_at}
use Rattle.scr_block_graph.proofs.Loops.{next-place}
use Rattle.scr_block_graph.proofs.Small.{level-few}
use Rattle.scr_block_graph.proofs.turns.push_steps.Goals as goal

pub loop-k-preserved : goal.loop-k-preserved
loop-k-preserved c =
    let turn = c.args.turn.now in
    next-place (block_point turn.sum c.args.level) (changed_at turn.count turn.step c.args.level) c.loop-k.k c.loop-k.list.items _ c.args.list.now.items
    c.loop-k.invariant c.in_ok-push_step.ensures

pub returns : goal.returns
returns c =
    let turn = c.args.turn.now in
    let last = c.loop-k-test.false in
    let few = level-few turn c.args.level c.requires in
    c.loop-k.invariant ∙ ap (λ ys. c.args.list.now.items ++ map (block_point turn.sum c.args.level) ys)
    (take_all c.loop-k.k (changed_at turn.count turn.step c.args.level) (omega (arith, last, few)))
