use Rattle.scr_num.specs.Rounding.{ends}
use Rattle.scr_flow.proofs.WalkLemmas.{IsLostBefore}
use Rattle.scr_flow.proofs.walk.both_losses.Given as goal

abbrev pub invariant-loop-day : goal.invariant-loop-day
invariant-loop-day l = IsLostBefore l.day-index l.years l.pairs l.first (ends l.left) × IsLostBefore l.day-index l.years l.pairs l.second (ends l.right)
