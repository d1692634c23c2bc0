use Rattle.std.proofs.Common.{◌≡◌, ◌++◌, map, filter, take}
use Rattle.scr_nodes.specs.Selections.{currency_figure, is_currency}
use Rattle.scr_nodes.proofs.lists.push_of_currencies.Given as goal

-- what the rows so far give stands behind what stood there
abbrev pub invariant-loop-k : goal.invariant-loop-k
invariant-loop-k l = l.list.items ≡ l.initial.list.items
    ++ map (currency_figure l.what) (filter (is_currency l.sheet l.currencies) (take l.k l.sheet.curves))
