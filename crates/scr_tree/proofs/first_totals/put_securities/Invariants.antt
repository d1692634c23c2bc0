use Rattle.scr_tree.specs.First.{AreReckonedTo}
use Rattle.scr_tree.specs.Turns.{turn}
use Rattle.scr_tree.proofs.first_totals.put_securities.Given as goal

-- those of the funds, and of the securities so far
abbrev pub invariant-loop-k : goal.invariant-loop-k
invariant-loop-k g l = AreReckonedTo l.ground l.figures (turn 1 l.k 0)
