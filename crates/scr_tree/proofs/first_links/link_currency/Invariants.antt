use Rattle.scr_tree.specs.First.{AreLinkedTo}
use Rattle.scr_tree.specs.Turns.{turn}
use Rattle.scr_tree.proofs.first_links.link_currency.Given as goal

-- those so far are linked
abbrev pub invariant-loop-family : goal.invariant-loop-family
invariant-loop-family l = AreLinkedTo l.ground l.links (turn 6 l.k l.family)
