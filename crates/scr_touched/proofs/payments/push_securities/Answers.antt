use Rattle.scr_touched.specs.Payments.{security_figures}
use Rattle.scr_touched.proofs.PaidFigures.{pushed_figures}
use Rattle.scr_touched.proofs.payments.push_securities.Goals as goal

pub loop-k-preserved : goal.loop-k-preserved
loop-k-preserved c =
    pushed_figures
    security_figures c.loop-k.list.items c.args.list.now.items c.extend_from_slice.new.self.items
    c.args.sheet.now.securities c.loop-k.k c.at-position.result.now c.at-position.ensures c.loop-k.invariant
    c.in_ok-extend_from_slice.ensures.items
