-- Quotients as shares, and products with a share that is known between two ends, this project's own.
use Rattle.std.specs.Prelude.{ℕ, ◌*◌, ◌≤◌, pos, ◌*ℤ◌}
use Rattle.scr_num.specs.Fraction.{Fraction, Share, over}
use Rattle.scr_num.specs.Rounding.{Ends, exact_ends, scale_ends, floor_div, ceil_div}

-- how many units make one
abbrev pub ratio_unit : ℕ
ratio_unit = 1_000_000_000_000_000_000

-- num / den in units of 10^-18
abbrev pub ratio_ends : (num den : ℕ) → Ends
ratio_ends num den = scale_ends (exact_ends (pos ratio_unit)) num den

-- a share as the fraction that it is
abbrev pub fraction_of : Share → Fraction
fraction_of share = over (pos share.num) share.den share.positive

-- the first share is at most the second, by cross products
pub record IsAtMostShare (p q : Share) : Type 0 where
  pub cross : p.num * q.den ≤ q.num * p.den

-- all products, over den, of a number of `a` and one of `shares`, where none is negative
abbrev pub product_ends : (a shares : Ends) → ℕ → Ends
product_ends a shares den = record {
  low = floor_div (a.low *ℤ shares.low) den;
  high = ceil_div (a.high *ℤ shares.high) den;
}
