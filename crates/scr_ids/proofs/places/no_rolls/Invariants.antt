-- So many rolls were made.
use Rattle.std.proofs.Common.{◌≡◌, replicate}
use Rattle.scr_ids.specs.Ranges.{no_ranges}
use Rattle.scr_ids.proofs.places.no_rolls.Given as goal

abbrev pub invariant-loop : goal.invariant-loop
invariant-loop l = l.rolls.items ≡ replicate l.counter no_ranges
