use Rattle.std.proofs.Common.{sym, ◌∙◌}
use Rattle.scr_nodes.specs.Rows.{is_of_group}
use Rattle.scr_nodes.specs.Sources.{security_spread}
use Rattle.scr_nodes.proofs.Walks.{pushed, passed_over}
use Rattle.scr_touched.proofs.groups.push_spreads.Goals as goal
use Rattle.scr_touched.proofs.groups.push_spreads.Goals.{then-is_of_group+in_ok-push, else-is_of_group}

pub loop-k-preserved : goal.loop-k-preserved
loop-k-preserved c =
    elim c.if-is_of_group.branch [
      | then-is_of_group+in_ok-push w ↦ pushed (is_of_group c.args.name.now) security_spread c.loop-k.list.items
          c.args.list.now.items c.if-is_of_group.list.items c.args.sheet.now.securities c.loop-k.k
          c.at-position.result.now c.at-position.ensures (sym c.is_of_group.ensures ∙ w.if-is_of_group.true)
          c.loop-k.invariant (cc (w.list-is, w.in_ok-push.ensures.items))
      | else-is_of_group w ↦ passed_over (is_of_group c.args.name.now) security_spread c.loop-k.list.items
          c.args.list.now.items c.if-is_of_group.list.items c.args.sheet.now.securities c.loop-k.k
          c.at-position.result.now c.at-position.ensures (sym c.is_of_group.ensures ∙ w.if-is_of_group.false)
          c.loop-k.invariant (cc (w.list-is))
    ]
