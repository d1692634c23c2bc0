use Rattle.scr_tree.specs.First.{AreDone}
use Rattle.scr_tree.specs.Turns.{turn}
use Rattle.scr_tree.proofs.first.put_wholes.Given as goal

-- those so far
abbrev pub invariant-loop-number : goal.invariant-loop-number
invariant-loop-number g l = AreDone l.linked.ground l.making.figures (turn 7 0 l.number)
