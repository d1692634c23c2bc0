use Rattle.scr_tree.specs.First.{AreLinkedTo}
use Rattle.scr_tree.specs.Turns.{turn}
use Rattle.scr_tree.proofs.first_links.link_currencies.Given as goal

-- those of the currencies so far are linked
abbrev pub invariant-loop-k : goal.invariant-loop-k
invariant-loop-k l = AreLinkedTo l.ground l.links (turn 6 l.k 0)
