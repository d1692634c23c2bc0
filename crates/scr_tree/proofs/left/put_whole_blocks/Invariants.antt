use Rattle.scr_tree.specs.First.{AreDoneTo}
use Rattle.scr_tree.specs.Turns.{turn}
use Rattle.scr_tree.proofs.left.put_whole_blocks.Given as goal

-- those under the figures so far are there
abbrev pub invariant-loop-number : goal.invariant-loop-number
invariant-loop-number g l = AreDoneTo l.ground l.figures (turn 7 0 0) (turn 7 0 l.number)
