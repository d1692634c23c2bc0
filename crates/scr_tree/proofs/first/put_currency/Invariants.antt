use Rattle.scr_tree.specs.First.{AreDone}
use Rattle.scr_tree.specs.Turns.{turn}
use Rattle.scr_tree.proofs.first.put_currency.Given as goal

-- those so far
abbrev pub invariant-loop-family : goal.invariant-loop-family
invariant-loop-family g l = AreDone l.linked.ground l.making.figures (turn 6 l.k l.family)
