-- The payments so far.
use Rattle.std.proofs.Common.{◌≡◌, map, take}
use Rattle.scr_made.specs.Made.{raised}
use Rattle.scr_made.proofs.liabilities.raised_payments.Given as goal

abbrev pub invariant-loop-day : goal.invariant-loop-day
invariant-loop-day l = l.payments.items ≡ map (raised l.thousandths) (take l.day-index l.best)
