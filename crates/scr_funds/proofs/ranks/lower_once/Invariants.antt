-- The ranks stay as many.
use Rattle.std.proofs.Common.{◌≡◌, length}
use Rattle.scr_funds.proofs.ranks.lower_once.Given as goal

abbrev pub invariant-loop-fund : goal.invariant-loop-fund
invariant-loop-fund l = length l.ranks.items ≡ length l.fn.ranks.items

abbrev pub invariant-loop-component : goal.invariant-loop-component
invariant-loop-component l = length l.ranks.items ≡ length l.fn.ranks.items
