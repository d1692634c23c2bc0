use Rattle.scr_touched.specs.Payments.{liability_figures}
use Rattle.scr_touched.proofs.PaidFigures.{pushed_figures}
use Rattle.scr_touched.proofs.payments.push_liabilities.Goals as goal

pub loop-k-preserved : goal.loop-k-preserved
loop-k-preserved c =
    pushed_figures
    liability_figures c.loop-k.list.items c.args.list.now.items c.push_liability.new.list.items
    c.args.sheet.now.liabilities c.loop-k.k c.at-liability.result.now c.at-liability.ensures c.loop-k.invariant
    c.in_ok-push_liability.ensures
