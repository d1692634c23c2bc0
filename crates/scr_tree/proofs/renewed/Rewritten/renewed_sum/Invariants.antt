-- The ends are those of the sum once the figures so far were written.
use Rattle.scr_tree.specs.Renewed.{family_numbers}
use Rattle.scr_tree.proofs.RenewedSums.{IsSoFar}
use Rattle.scr_tree.proofs.renewed.Rewritten.renewed_sum.Given as goal

abbrev pub invariant-loop-place : goal.invariant-loop-place
invariant-loop-place l = IsSoFar l.self.former.now l.self.figures.now (family_numbers l.family l.firsts) l.place l.low l.high
