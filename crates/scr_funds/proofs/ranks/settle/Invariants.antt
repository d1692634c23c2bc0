-- The ranks stay as many.
use Rattle.std.proofs.Common.{◌≡◌, length}
use Rattle.scr_funds.proofs.ranks.settle.Given as goal

abbrev pub invariant-loop : goal.invariant-loop
invariant-loop l = length l.ranks.items ≡ length l.fn.ranks.items
