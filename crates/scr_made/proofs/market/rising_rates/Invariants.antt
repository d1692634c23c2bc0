-- The rates of the years so far.
use Rattle.std.proofs.Common.{◌≡◌}
use Rattle.scr_made.specs.Made.{for_years, rising_rate}
use Rattle.scr_made.proofs.market.rising_rates.Given as goal

abbrev pub invariant-loop-k : goal.invariant-loop-k
invariant-loop-k l = l.rates.items ≡ for_years l.k (rising_rate l.base l.step)
