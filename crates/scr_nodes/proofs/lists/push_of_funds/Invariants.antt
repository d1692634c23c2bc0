use Rattle.std.proofs.Common.{◌≡◌, ◌++◌, map, filter, take}
use Rattle.scr_nodes.specs.Selections.{fund_figure, is_holder}
use Rattle.scr_nodes.proofs.lists.push_of_funds.Given as goal

-- what the rows so far give stands behind what stood there
abbrev pub invariant-loop-k : goal.invariant-loop-k
invariant-loop-k l = l.list.items ≡ l.initial.list.items
    ++ map (fund_figure l.what) (filter (is_holder l.holders) (take l.k l.sheet.funds))
