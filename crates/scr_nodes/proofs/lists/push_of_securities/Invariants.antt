use Rattle.std.proofs.Common.{◌≡◌, ◌++◌, map, filter, take}
use Rattle.scr_nodes.specs.Selections.{is_counted, security_figure}
use Rattle.scr_nodes.proofs.lists.push_of_securities.Given as goal

-- what the rows so far give stands behind what stood there
abbrev pub invariant-loop-k : goal.invariant-loop-k
invariant-loop-k l = l.list.items ≡ l.initial.list.items
    ++ map (security_figure l.what) (filter (is_counted l.holdings) (take l.k l.sheet.securities))
