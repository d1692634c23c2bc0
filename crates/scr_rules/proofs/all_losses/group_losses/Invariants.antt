use Rattle.std.proofs.Common.{◌≡◌, length}
use Rattle.scr_rules.specs.GroupLosses.{first_losses}
use Rattle.scr_rules.proofs.all_losses.group_losses.Given as goal

-- the losses by the banks so far
abbrev pub invariant-loop-k : goal.invariant-loop-k
invariant-loop-k l = l.sums.items ≡ first_losses l.book.sheet l.k 0

-- and, by all banks, those by the reinsurers so far
abbrev pub invariant-loop-k-2 : goal.invariant-loop-k-2
invariant-loop-k-2 l = l.sums.items ≡ first_losses l.book.sheet (length l.book.sheet.banks) l.k
