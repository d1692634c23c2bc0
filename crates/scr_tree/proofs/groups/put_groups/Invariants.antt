use Rattle.scr_tree.specs.First.{AreGroupsDone}
use Rattle.scr_tree.proofs.groups.put_groups.Given as goal

-- those of the groups whose lists begin at the slots so far
abbrev pub invariant-loop-slot : goal.invariant-loop-slot
invariant-loop-slot g l = AreGroupsDone l.ground l.figures l.slot
