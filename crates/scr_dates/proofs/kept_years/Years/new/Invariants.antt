use Rattle.std.proofs.Common.{◌≡◌, ℕ, ◌<◌, length, ℤ, get_or}
use Rattle.scr_dates.specs.Years.{anniversary}
use Rattle.scr_dates.proofs.kept_years.Years.new.Given as goal

abbrev pub invariant-loop-n : goal.invariant-loop-n
invariant-loop-n l = (length l.days ≡ 101) × ((k : ℕ) (d : ℤ) → k < l.n → get_or l.days k d ≡ anniversary l.asof.number k)
