use Rattle.std.proofs.Common.{◌≡◌, ◌++◌, map, filter, take}
use Rattle.scr_nodes.specs.Rows.{is_of_group}
use Rattle.scr_nodes.specs.Sources.{security_spread}
use Rattle.scr_touched.proofs.groups.push_spreads.Given as goal

-- what the rows so far give stands behind what stood there
abbrev pub invariant-loop-k : goal.invariant-loop-k
invariant-loop-k l = l.list.items ≡ l.initial.list.items
    ++ map security_spread (filter (is_of_group l.name) (take l.k l.sheet.securities))
