use Rattle.std.proofs.Common.{◌-◌, map}
use Rattle.scr_num.specs.Rounding.{ends}
use Rattle.scr_flow.proofs.SumLemmas.{IsSumBefore}
use Rattle.scr_flow.proofs.value.weighted_sum.Given as goal

abbrev pub invariant-loop-i : goal.invariant-loop-i
invariant-loop-i l = IsSumBefore l.i l.flows (map ends l.spans) (ends l.sum)

abbrev pub decreases-loop-i : goal.decreases-loop-i
decreases-loop-i l = 100 - l.i
