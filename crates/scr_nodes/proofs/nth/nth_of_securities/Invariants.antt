use Rattle.std.proofs.Common.{◌≡◌, ◌+◌}
use Rattle.scr_nodes.specs.Selections.{is_counted}
use Rattle.scr_nodes.proofs.Walks.{passed}
use Rattle.scr_nodes.proofs.nth.nth_of_securities.Given as goal

-- so many rows passed, and so many are left to pass
abbrev pub invariant-loop-k : goal.invariant-loop-k
invariant-loop-k l = l.place ≡ passed (is_counted l.holdings) l.sheet.securities l.k + l.left
