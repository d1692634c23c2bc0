use Rattle.std.proofs.Common.{◌∙◌, sym, ap}
use Rattle.std.proofs.lemmas.List.{append-nil, drop_all}
use Rattle.std.specs.Prelude.{flat_map}
use Rattle.std.proofs.Common.{◌++◌}
use Rattle.scr_block_graph.specs.Books.{rolled_of}
use Rattle.scr_block_graph.specs.Told.{points_of}
use Rattle.scr_block_graph.proofs.Have.{have-all, have-more}
use Rattle.scr_block_graph.proofs.Loops.{added-each}
use Rattle.scr_block_graph.proofs.touched.touched_by.Goals as goal

pub loop-node-preserved : goal.loop-node-preserved
loop-node-preserved c =
    let book = rolled_of c.args.book.now in
    record {
      list = added-each c.args.told.now c.loop-node.node-index c.node-item.result c.loop-node-test.true c.node-item.is
          c.loop-node.list.items _ _ (points_of c.args.edit.now book) c.loop-node.invariant.list c.in_ok-push_points.ensures.list;
      rolls = have-more book c.args.told.now c.loop-node.node-index c.loop-node.invariant.rolls c.node-item.result c.loop-node-test.true c.node-item.is
          c.in_ok-push_points.ensures.rolls;
    }

pub returns-clause-list : goal.returns-clause-list
returns-clause-list c =
    let points = points_of c.args.edit.now (rolled_of c.args.book.now) in
    sym (append-nil c.loop-node.list.items)
    ∙ ap (λ rest. c.loop-node.list.items ++ flat_map points rest) (sym (drop_all c.loop-node.node-index c.args.told.now c.loop-node-test.false))
    ∙ c.loop-node.invariant.list

pub returns-clause-rolls : goal.returns-clause-rolls
returns-clause-rolls c =
    have-all (rolled_of c.args.book.now) c.args.told.now c.loop-node.node-index c.loop-node.invariant.rolls c.loop-node-test.false
