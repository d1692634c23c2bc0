use Rattle.std.proofs.Common.{◌++◌, sym, ap, ◌∙◌}
use Rattle.std.proofs.lemmas.List.{append-nil, drop_all}
use Rattle.std.specs.Prelude.{flat_map}
use Rattle.scr_block_graph.proofs.Loops.{added-each}
use Rattle.scr_block_graph.proofs.Plain.{alone}
use Rattle.scr_block_graph.proofs.touched.figures.Goals as goal

pub loop-node-preserved : goal.loop-node-preserved
loop-node-preserved c =
    added-each c.args.told.now c.loop-node.node-index c.node-item.result c.loop-node-test.true c.node-item.is
    c.loop-node.list.items _ _ alone c.loop-node.invariant c.in_ok-push_point.ensures

pub returns : goal.returns
returns c =
    sym (append-nil c.loop-node.list.items)
    ∙ ap (λ rest. c.loop-node.list.items ++ flat_map alone rest) (sym (drop_all c.loop-node.node-index c.args.told.now c.loop-node-test.false))
    ∙ c.loop-node.invariant
