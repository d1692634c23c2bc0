use Rattle.std.proofs.Common.{sym, ◌∙◌}
use Rattle.scr_nodes.specs.Selections.{group_figure, is_counterparty}
use Rattle.scr_nodes.proofs.Walks.{pushed, passed_over}
use Rattle.scr_nodes.proofs.lists.push_of_groups.Goals as goal
use Rattle.scr_nodes.proofs.lists.push_of_groups.Goals.{then-is_counterparty+in_ok-push, else-is_counterparty}

pub loop-k-preserved : goal.loop-k-preserved
loop-k-preserved c =
    elim c.if-is_counterparty.branch [
      | then-is_counterparty+in_ok-push w ↦ pushed (is_counterparty c.args.counterparties)
          (group_figure c.args.what) c.loop-k.list.items c.args.list.now.items c.if-is_counterparty.list.items
          c.args.sheet.now.groups c.loop-k.k c.at-group.result.now c.at-group.ensures
          (sym c.is_counterparty.ensures ∙ w.if-is_counterparty.true) c.loop-k.invariant (cc (w.list-is, w.in_ok-push.ensures.items))
      | else-is_counterparty w ↦ passed_over (is_counterparty c.args.counterparties)
          (group_figure c.args.what) c.loop-k.list.items c.args.list.now.items c.if-is_counterparty.list.items
          c.args.sheet.now.groups c.loop-k.k c.at-group.result.now c.at-group.ensures
          (sym c.is_counterparty.ensures ∙ w.if-is_counterparty.false) c.loop-k.invariant (cc (w.list-is))
    ]
