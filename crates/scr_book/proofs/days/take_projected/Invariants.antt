use Rattle.std.proofs.Common.{◌≡◌, ℤ, ◌+◌, drop}
use Rattle.scr_dates.specs.Civil.{IsDay}
use Rattle.scr_counters.specs.Days.{count_of}
use Rattle.scr_book.specs.LastDays.{projections_ending}
use Rattle.scr_book.proofs.days.take_projected.Given as goal

abbrev pub invariant-loop-projection : goal.invariant-loop-projection
invariant-loop-projection l =
    (day : ℤ) → IsDay day
    → count_of day l.days + projections_ending day l.flows l.projections ≡ count_of day l.fn.days + projections_ending day l.flows (drop l.projection-index l.projections)
