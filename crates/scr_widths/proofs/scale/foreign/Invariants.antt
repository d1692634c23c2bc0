use Rattle.std.proofs.Common.{◌≡◌, count_by, take}
use Rattle.scr_nodes.specs.Rows.{is_foreign}
use Rattle.scr_widths.proofs.scale.foreign.Given as goal

abbrev pub invariant-loop-k : goal.invariant-loop-k
invariant-loop-k l = l.count ≡ count_by (is_foreign l.sheet) (take l.k l.sheet.curves)
