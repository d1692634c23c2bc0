-- The capital requirement for type 1 exposures, in cents: Article 200 of Delegated Regulation (EU) 2015/35. The total is
-- the loss given default of all type 1 exposures, and the variance that of their loss distribution.
use Rattle.std.specs.Prelude.{ℕ, zero, suc, Bool, if◌then◌else◌}
use Rattle.std.proofs.Common.{lit<}
use Rattle.scr_num.specs.Fraction.{Fraction, Share, percent, product, square, is_less}
use Rattle.scr_num.specs.Figure.{Figure}
use Rattle.scr_num.specs.Figure.Figure.{Frac, Times, RootOf}

-- the standard deviation is above that share of the total: of two numbers that are not negative the one with the
-- greater square is greater
abbrev pub is_above : (share total variance : Fraction) → Bool
is_above share total variance = is_less (square (product share total)) variance

-- 0 where the standard deviation is at most 7 percent of the total, 1 where it is above and at most 20 percent, 2 above
abbrev pub band_of : (total variance : Fraction) → ℕ
band_of total variance =
    if is_above (percent 20) total variance then 2 else (if is_above (percent 7) total variance then 1 else 0)

-- so many times
abbrev pub multiple : ℕ → Share
multiple n = record { num = n; den = 1; positive = lit< tt }

-- the standard deviation
abbrev pub deviation_figure : Fraction → Figure
deviation_figure variance = RootOf (Frac variance)

-- three times the standard deviation, five times, and the whole total (Article 200(1), (2) and (3))
abbrev pub charge_figure : (band : ℕ) (total variance : Fraction) → Figure
charge_figure zero total variance = Times (deviation_figure variance) (multiple 3)
charge_figure (suc zero) total variance = Times (deviation_figure variance) (multiple 5)
charge_figure (suc (suc _)) total variance = Frac total

abbrev pub type1_figure : (total variance : Fraction) → Figure
type1_figure total variance = charge_figure (band_of total variance) total variance
