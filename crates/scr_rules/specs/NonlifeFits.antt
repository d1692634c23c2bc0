-- When the rules of charges that are handed in, of segments, and of the modules with a charge for lapse risk keep to 128
-- bits (this project's own).
use Rattle.std.specs.Prelude.{◌≡◌, ℕ, ◌*◌, ◌^◌, ◌≤◌, ◌<◌, pos, ◌<ℤ◌, ◌≤ℤ◌, List, length, sum_by}
use Rattle.std.specs.List.{AllByRecursion}
use Rattle.scr_num.specs.Rounding.{Ends, or_zero}
use Rattle.scr_agg.specs.Correlated.{CellsWithin}
use Rattle.scr_profile.specs.declared.limits.TheConstants.{MAX_AMOUNT}
use Rattle.scr_profile.specs.declared.matrix.Matrix.{Matrix}
use Rattle.scr_nonlife.specs.Segment.{total_volume}
use Rattle.scr_rules.specs.Figures.{figure_at}
use Rattle.scr_rules.specs.LossFits.{MAX_REQUIREMENT}
use Rattle.scr_rules.specs.RootFits.{FitsRoot}

-- the most grains of a handed-in charge
abbrev pub MAX_CHARGE : ℕ
MAX_CHARGE = 10_000_000_000_000_000

pub record FitsCharged (times cents : ℕ) : Type 0 where
  pub small : times * cents ≤ MAX_CHARGE

pub record FitsSegment (volumes : List (ℕ × ℕ)) (premium reserve : ℕ) : Type 0 where
  pub volume : total_volume volumes ≤ MAX_AMOUNT
  pub premium_deviation : premium ≤ 1_000_000
  pub reserve_deviation : reserve ≤ 1_000_000

pub record FitsPremiumReserve (m : Matrix) (figures : List Ends) : Type 0 where
  pub size : m.n ≤ 16
  pub denominator : pos 0 <ℤ m.den
  pub cells : CellsWithin m
  pub count : length figures ≡ m.n
  pub lows : AllByRecursion (λ e. pos 0 ≤ℤ e.low) figures
  pub small :
      or_zero m.den * (sum_by (λ e. or_zero e.high) figures * sum_by (λ e. or_zero e.high) figures) < 2 ^ 127

pub record FitsNonlife (lapse : ℕ) (figures : List Ends) : Type 0 where
  pub charge : lapse ≤ MAX_AMOUNT
  pub parts : FitsRoot 2 figures

pub record FitsNslt (lapse : ℕ) (figures : List Ends) : Type 0 where
  pub charge : lapse ≤ MAX_AMOUNT
  pub low : pos 0 ≤ℤ (figure_at figures 0).low
  pub high : (figure_at figures 0).high ≤ℤ pos MAX_REQUIREMENT
