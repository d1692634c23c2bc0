use Rattle.std.proofs.Common.{◌≡◌, length}
use Rattle.scr_agg.specs.Unbeaten.{alternatives, unbeaten_below}
use Rattle.scr_agg.proofs.choice.unbeaten_count.Given as goal

abbrev pub invariant-loop-i : goal.invariant-loop-i
invariant-loop-i l = l.count ≡ length (unbeaten_below (alternatives l.list) l.i)
