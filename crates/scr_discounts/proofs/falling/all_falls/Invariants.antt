use Rattle.std.proofs.Common.{◌≡◌, take}
use Rattle.scr_discounts.specs.Kept.{rows_of}
use Rattle.scr_discounts.specs.KeptRates.{falls_of}
use Rattle.scr_discounts.proofs.falling.all_falls.Given as goal

abbrev pub invariant-loop-k : goal.invariant-loop-k
invariant-loop-k l = l.falls.items ≡ take l.k (falls_of l.sheet.curves (rows_of l.curves))
