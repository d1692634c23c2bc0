use Rattle.scr_num.proofs.Totals.{SummedTo}
use Rattle.scr_num.proofs.total.Given as goal

abbrev pub invariant-loop-span : goal.invariant-loop-span
invariant-loop-span l = SummedTo l.spans l.sum l.span-index
