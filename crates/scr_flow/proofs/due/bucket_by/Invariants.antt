use Rattle.scr_flow.proofs.DueLemmas.{IsDueBefore}
use Rattle.scr_flow.proofs.due.bucket_by.Given as goal

abbrev pub invariant-loop-day : goal.invariant-loop-day
invariant-loop-day l = IsDueBefore l.day-index l.years l.pairs l.flows
