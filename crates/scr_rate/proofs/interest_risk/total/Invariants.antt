use Rattle.scr_rate.proofs.Totals.{SummedTo}
use Rattle.scr_rate.proofs.interest_risk.total.Given as goal

abbrev pub invariant-loop-number : goal.invariant-loop-number
invariant-loop-number l = SummedTo l.numbers l.sum l.number-index
