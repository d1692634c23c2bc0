use Rattle.std.proofs.Common.{take}
use Rattle.scr_reachability.specs.LinkedDues.{numbers_of}
use Rattle.scr_reachability.specs.Relinking.{AreUnlinked}
use Rattle.scr_reachability.proofs.relinking.unlink_all.Given as goal

-- those of the dues so far
abbrev pub invariant-loop-due : goal.invariant-loop-due
invariant-loop-due l = AreUnlinked (numbers_of (take l.due-index l.dues)) l.fn.links l.links
