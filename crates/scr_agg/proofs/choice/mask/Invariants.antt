use Rattle.std.proofs.Common.{◌≡◌}
use Rattle.scr_agg.specs.Unbeaten.{alternatives}
use Rattle.scr_agg.proofs.Alternatives.{mask_below}
use Rattle.scr_agg.proofs.choice.mask.Given as goal

abbrev pub invariant-loop-i : goal.invariant-loop-i
invariant-loop-i l = l.mask ≡ mask_below (alternatives l.list) l.i
