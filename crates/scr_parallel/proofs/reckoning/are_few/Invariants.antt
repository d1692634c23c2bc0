-- The sources of the dues so far can be counted.
use Rattle.std.proofs.Common.{◌<◌, ◌^◌, length, take}
use Rattle.std.specs.List.{AllByRecursion}
use Rattle.scr_reachability.specs.declared.ranks.Due.{Due}
use Rattle.scr_parallel.proofs.reckoning.are_few.Given as goal

abbrev pub invariant-loop-due : goal.invariant-loop-due
invariant-loop-due l = AllByRecursion (λ (due : Due). length due.sources.items < 2 ^ 32) (take l.due-index l.dues)
