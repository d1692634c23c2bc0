use Rattle.scr_tree.specs.First.{AreDone}
use Rattle.scr_tree.specs.Turns.{turn}
use Rattle.scr_tree.proofs.first.put_currencies.Given as goal

-- those of the rows so far
abbrev pub invariant-loop-k : goal.invariant-loop-k
invariant-loop-k g l = AreDone l.linked.ground l.making.figures (turn 6 l.k 0)
