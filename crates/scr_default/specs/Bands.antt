-- How near the standard deviation is to the edge of a band, where its ends leave several bands of Article 200 of
-- Delegated Regulation (EU) 2015/35 possible (this project's own).
use Rattle.std.specs.Prelude.{ℕ, ◌*◌, ◌<◌, ◌≤◌, ◌⊎◌}
use Rattle.scr_num.specs.Rounding.{Ends, or_zero}

-- so many percent of the total lie between the ends
pub record IsBetween (percent : ℕ) (deviation : Ends) (total : ℕ) : Type 0 where
  pub low : 100 * or_zero deviation.low ≤ percent * total
  pub high : percent * total < 100 * or_zero deviation.high

-- one of the two edges does
abbrev pub IsNearBand : Ends → ℕ → Type 0
IsNearBand deviation total = IsBetween 7 deviation total ⊎ IsBetween 20 deviation total
