-- A step has been taken for each number so far.
use Rattle.std.proofs.Common.{◌≡◌, ◌+◌}
use Rattle.scr_tree.proofs.reckoning.pass_each.Given as goal

abbrev pub invariant-loop-number : goal.invariant-loop-number
invariant-loop-number g l = l.steps ≡ l.fn.steps + l.number-index
