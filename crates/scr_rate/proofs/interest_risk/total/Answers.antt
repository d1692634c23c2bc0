use Rattle.scr_rate.proofs.Totals.{summed-next}
use Rattle.scr_rate.proofs.interest_risk.total.Goals as goal

pub loop-number-preserved : goal.loop-number-preserved
loop-number-preserved c =
    summed-next c.args.numbers.now c.loop-number.sum c.number-item.result c.add-sum.result c.loop-number.number-index c.loop-number-test.true c.number-item.is c.add-sum.ensures.ends
    c.loop-number.invariant
