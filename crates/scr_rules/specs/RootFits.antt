-- When a root over figures keeps to 128 bits: none is below 0, and their high ends are together within a limit (this
-- project's own).
use Rattle.std.specs.Prelude.{ℕ, ◌+◌, ◌≤◌, pos, ◌≤ℤ◌, List, [], ◌∷◌}
use Rattle.scr_num.specs.Rounding.{Ends, or_zero}
use Rattle.scr_rules.specs.Figures.{figures_from}

abbrev pub AreNotNegative : List Ends → Type 0
AreNotNegative [] = Unit {0}
AreNotNegative (e ∷ es) = (pos 0 ≤ℤ e.low) × AreNotNegative es

-- the high ends, summed
abbrev pub high_total : List Ends → ℕ
high_total [] = 0
high_total (e ∷ es) = or_zero e.high + high_total es

-- of the first so many figures
pub record FitsRoot (count : ℕ) (figures : List Ends) : Type 0 where
  pub lows : AreNotNegative (figures_from figures 0 count)
  pub highs : high_total (figures_from figures 0 count) ≤ 6_000_000_000_000_000_000
