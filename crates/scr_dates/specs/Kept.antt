-- The anniversaries that are kept of a reference date (this project's own).
use Rattle.std.specs.Prelude.{ℕ, ◌≡◌, ◌<◌, ℤ, List, slice_index_or}
use Rattle.scr_dates.specs.Civil.{IsDay}
use Rattle.scr_dates.specs.Years.{anniversary}

-- the day at each place is that so many years after the reference day
pub record IsKept (asof : ℤ) (days : List ℤ) : Type 0 where
  pub asof_in : IsDay asof
  pub each : (k : ℕ) (d : ℤ) → k < 101 → slice_index_or days k d ≡ anniversary asof k
