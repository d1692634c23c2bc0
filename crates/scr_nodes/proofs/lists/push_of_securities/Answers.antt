use Rattle.std.proofs.Common.{sym, ◌∙◌}
use Rattle.scr_nodes.specs.Selections.{is_counted, security_figure}
use Rattle.scr_nodes.proofs.Walks.{pushed, passed_over}
use Rattle.scr_nodes.proofs.lists.push_of_securities.Goals as goal
use Rattle.scr_nodes.proofs.lists.push_of_securities.Goals.{then-is_counted+in_ok-push, else-is_counted}

pub loop-k-preserved : goal.loop-k-preserved
loop-k-preserved c =
    elim c.if-is_counted.branch [
      | then-is_counted+in_ok-push w ↦ pushed (is_counted c.args.holdings.now)
          (security_figure c.args.what) c.loop-k.list.items c.args.list.now.items c.if-is_counted.list.items
          c.args.sheet.now.securities c.loop-k.k c.at-position.result.now c.at-position.ensures
          (sym c.is_counted.ensures ∙ w.if-is_counted.true) c.loop-k.invariant (cc (w.list-is, w.in_ok-push.ensures.items))
      | else-is_counted w ↦ passed_over (is_counted c.args.holdings.now)
          (security_figure c.args.what) c.loop-k.list.items c.args.list.now.items c.if-is_counted.list.items
          c.args.sheet.now.securities c.loop-k.k c.at-position.result.now c.at-position.ensures
          (sym c.is_counted.ensures ∙ w.if-is_counted.false) c.loop-k.invariant (cc (w.list-is))
    ]
