use Rattle.scr_tree.proofs.LeftNumbers.{AreLeftBelow}
use Rattle.scr_tree.proofs.left.left_numbers.Given as goal

-- those so far
abbrev pub invariant-loop-number : goal.invariant-loop-number
invariant-loop-number l = AreLeftBelow l.numbers l.number l.list.items
