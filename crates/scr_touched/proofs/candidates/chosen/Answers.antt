use Rattle.std.proofs.Common.{sym, ap, ◌∙◌}
use Rattle.scr_touched.specs.Candidates.{touches}
use Rattle.scr_touched.proofs.Loops.{kept-one, passed-one}
use Rattle.scr_touched.proofs.candidates.chosen.Goals as goal
use Rattle.scr_touched.proofs.candidates.chosen.Goals.{then-touches+in_ok-push, else-touches}

pub loop-node-preserved : goal.loop-node-preserved
loop-node-preserved c =
    elim c.if-touches.branch [
      | then-touches+in_ok-push w ↦ kept-one (touches c.args.sheet.now c.args.change.now)
          c.args.all.now _ c.loop-node.node-index c.node-item.result c.loop-node-test.true c.node-item.is
          c.loop-node.list.items c.if-touches.list.items c.loop-node.invariant (sym w.if-touches.ensures)
          (ap (λ list. list.items) w.list-is ∙ w.in_ok-push.ensures.items)
      | else-touches w ↦ passed-one (touches c.args.sheet.now c.args.change.now)
          c.args.all.now _ c.loop-node.node-index c.node-item.result c.loop-node-test.true c.node-item.is
          c.loop-node.list.items c.if-touches.list.items c.loop-node.invariant (sym w.if-touches.ensures)
          (ap (λ list. list.items) w.list-is)
    ]
