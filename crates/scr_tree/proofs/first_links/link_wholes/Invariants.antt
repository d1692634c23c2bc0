use Rattle.scr_tree.specs.First.{AreLinkedTo}
use Rattle.scr_tree.specs.Turns.{turn}
use Rattle.scr_tree.proofs.first_links.link_wholes.Given as goal

-- those so far are linked
abbrev pub invariant-loop-number : goal.invariant-loop-number
invariant-loop-number l = AreLinkedTo l.ground l.links (turn 7 0 l.number)
