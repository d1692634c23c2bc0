use Rattle.std.proofs.Common.{◌≡◌, drop}
use Rattle.scr_dates.specs.Payments.{last_from, last_day}
use Rattle.scr_dates.proofs.payments.last_day.Given as goal

abbrev pub invariant-loop-day : goal.invariant-loop-day
invariant-loop-day l = last_from l.last (drop l.day-index l.pairs) ≡ last_day l.pairs
