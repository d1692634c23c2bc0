use Rattle.std.proofs.Common.{sym, ◌∙◌}
use Rattle.scr_nodes.specs.Selections.{fund_figure, is_holder}
use Rattle.scr_nodes.proofs.Walks.{pushed, passed_over}
use Rattle.scr_nodes.proofs.lists.push_of_funds.Goals as goal
use Rattle.scr_nodes.proofs.lists.push_of_funds.Goals.{then-is_holder+in_ok-push, else-is_holder}

pub loop-k-preserved : goal.loop-k-preserved
loop-k-preserved c =
    elim c.if-is_holder.branch [
      | then-is_holder+in_ok-push w ↦ pushed (is_holder c.args.holders.now)
          (fund_figure c.args.what) c.loop-k.list.items c.args.list.now.items c.if-is_holder.list.items
          c.args.sheet.now.funds c.loop-k.k c.at-stake.result.now c.at-stake.ensures
          (sym c.is_holder.ensures ∙ w.if-is_holder.true) c.loop-k.invariant (cc (w.list-is, w.in_ok-push.ensures.items))
      | else-is_holder w ↦ passed_over (is_holder c.args.holders.now)
          (fund_figure c.args.what) c.loop-k.list.items c.args.list.now.items c.if-is_holder.list.items
          c.args.sheet.now.funds c.loop-k.k c.at-stake.result.now c.at-stake.ensures
          (sym c.is_holder.ensures ∙ w.if-is_holder.false) c.loop-k.invariant (cc (w.list-is))
    ]
