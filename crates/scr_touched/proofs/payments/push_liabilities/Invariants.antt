use Rattle.std.proofs.Common.{◌≡◌, ◌++◌, flat_map, take}
use Rattle.scr_touched.specs.Payments.{liability_figures}
use Rattle.scr_touched.proofs.payments.push_liabilities.Given as goal

-- what the rows so far give stands behind what stood there
abbrev pub invariant-loop-k : goal.invariant-loop-k
invariant-loop-k l = l.list.items ≡ l.initial.list.items ++ flat_map liability_figures (take l.k l.sheet.liabilities)
