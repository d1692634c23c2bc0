use Rattle.std.proofs.Common.{◌≡◌, ◌++◌, map, filter, take}
use Rattle.scr_nodes.specs.Selections.{group_figure, is_counterparty}
use Rattle.scr_nodes.proofs.lists.push_of_groups.Given as goal

-- what the rows so far give stands behind what stood there
abbrev pub invariant-loop-k : goal.invariant-loop-k
invariant-loop-k l = l.list.items ≡ l.initial.list.items
    ++ map (group_figure l.what) (filter (is_counterparty l.counterparties) (take l.k l.sheet.groups))
