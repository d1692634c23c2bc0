use Rattle.std.proofs.Common.{sym, ◌∙◌}
use Rattle.scr_nodes.specs.Selections.{is_obligation, liability_figure}
use Rattle.scr_nodes.proofs.Walks.{pushed, passed_over}
use Rattle.scr_nodes.proofs.lists.push_of_liabilities.Goals as goal
use Rattle.scr_nodes.proofs.lists.push_of_liabilities.Goals.{then-is_obligation+in_ok-push, else-is_obligation}

pub loop-k-preserved : goal.loop-k-preserved
loop-k-preserved c =
    elim c.if-is_obligation.branch [
      | then-is_obligation+in_ok-push w ↦ pushed (is_obligation c.args.obligations.now)
          (liability_figure c.args.what) c.loop-k.list.items c.args.list.now.items c.if-is_obligation.list.items
          c.args.sheet.now.liabilities c.loop-k.k c.at-liability.result.now c.at-liability.ensures
          (sym c.is_obligation.ensures ∙ w.if-is_obligation.true) c.loop-k.invariant (cc (w.list-is, w.in_ok-push.ensures.items))
      | else-is_obligation w ↦ passed_over (is_obligation c.args.obligations.now)
          (liability_figure c.args.what) c.loop-k.list.items c.args.list.now.items c.if-is_obligation.list.items
          c.args.sheet.now.liabilities c.loop-k.k c.at-liability.result.now c.at-liability.ensures
          (sym c.is_obligation.ensures ∙ w.if-is_obligation.false) c.loop-k.invariant (cc (w.list-is))
    ]
