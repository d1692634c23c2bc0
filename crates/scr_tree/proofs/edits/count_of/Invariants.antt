use Rattle.std.proofs.Common.{◌≡◌, ◌+◌, drop}
use Rattle.scr_reachability.specs.LinkedDues.{sources_count}
use Rattle.scr_tree.proofs.edits.count_of.Given as goal

-- the sources of the dues so far, and of the rest
abbrev pub invariant-loop-due : goal.invariant-loop-due
invariant-loop-due l = l.count + sources_count (drop l.due-index l.dues) ≡ sources_count l.dues
