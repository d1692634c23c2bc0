-- The payments of the years so far.
use Rattle.std.proofs.Common.{◌≡◌}
use Rattle.scr_made.specs.Made.{for_years, payment}
use Rattle.scr_made.proofs.securities.payments.Given as goal

abbrev pub invariant-loop-k : goal.invariant-loop-k
invariant-loop-k l = l.payments.items ≡ for_years l.k (payment l.years)
