use Rattle.std.proofs.Common.{not, sym, ap, ◌∙◌}
use Rattle.scr_touched.specs.Candidates.{is_of_row}
use Rattle.scr_touched.proofs.Loops.{kept-one, passed-one}
use Rattle.scr_touched.proofs.candidates.push_others.Goals as goal
use Rattle.scr_touched.proofs.candidates.push_others.Goals.{then-not-is_of_row+in_ok-push, else-not-is_of_row}

pub loop-node-preserved : goal.loop-node-preserved
loop-node-preserved c =
    elim c.if-not-is_of_row.branch [
      | then-not-is_of_row+in_ok-push w ↦ kept-one (λ node. not (is_of_row c.args.sheet.now c.args.change.now node))
          c.args.later.now _ c.loop-node.node-index c.node-item.result c.loop-node-test.true c.node-item.is
          c.loop-node.list.items c.if-not-is_of_row.list.items c.loop-node.invariant
          (ap not (sym c.is_of_row.ensures ∙ w.if-not-is_of_row.true))
          (ap (λ list. list.items) w.list-is ∙ w.in_ok-push.ensures.items)
      | else-not-is_of_row w ↦ passed-one (λ node. not (is_of_row c.args.sheet.now c.args.change.now node))
          c.args.later.now _ c.loop-node.node-index c.node-item.result c.loop-node-test.true c.node-item.is
          c.loop-node.list.items c.if-not-is_of_row.list.items c.loop-node.invariant
          (ap not (sym c.is_of_row.ensures ∙ w.if-not-is_of_row.false))
          (ap (λ list. list.items) w.list-is)
    ]
