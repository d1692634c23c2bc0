use Rattle.scr_reachability.proofs.Joining.{AreLinkedUpTo}
use Rattle.scr_reachability.proofs.relinking.link_all.Given as goal

-- those of the dues so far, and there is room for the rest
abbrev pub invariant-loop-due : goal.invariant-loop-due
invariant-loop-due l = AreLinkedUpTo l.dues l.due-index l.fn.links l.links
