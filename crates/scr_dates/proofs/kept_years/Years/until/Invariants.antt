use Rattle.std.proofs.Common.{◌-◌, ◌≤◌, ◌<ℤ◌}
use Rattle.scr_dates.specs.Years.{anniversary}
use Rattle.scr_dates.proofs.kept_years.Years.until.Given as goal

abbrev pub invariant-loop-n : goal.invariant-loop-n
invariant-loop-n l = (1 ≤ l.n) × (anniversary l.self (l.n - 1) <ℤ l.pay.number)
