use Rattle.std.proofs.Common.{◌≡◌, ◌+◌}
use Rattle.scr_nodes.specs.Selections.{is_holder}
use Rattle.scr_nodes.proofs.Walks.{passed}
use Rattle.scr_nodes.proofs.nth.nth_of_funds.Given as goal

-- so many rows passed, and so many are left to pass
abbrev pub invariant-loop-k : goal.invariant-loop-k
invariant-loop-k l = l.place ≡ passed (is_holder l.holders) l.sheet.funds l.k + l.left
