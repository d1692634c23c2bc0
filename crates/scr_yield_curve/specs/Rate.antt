-- The risk-free interest rate of a maturity and its stresses, after Articles 166 and 167 of Delegated Regulation
-- (EU) 2015/35. Nothing is rounded.
use Rattle.std.specs.Prelude.{ℕ, ◌-◌, min, length, ℤ, pos, int_lt, if◌then◌else◌, List, slice_index_or}
use Rattle.std.proofs.Common.{lit<}
use Rattle.scr_num.specs.Fraction.{Fraction, over, zero_fraction, percent, millionths, plus, minus, product, greater}
use Rattle.scr_profile.specs.Interest.{rise, fall, stress}
use Rattle.scr_yield_curve.specs.declared.tilt.Tilt.{Tilt}
use Rattle.scr_yield_curve.specs.declared.tilt.Tilt.TheVariants.{Base, Up, Down}

-- The rate of a curve at a maturity in years, from 1 on. Beyond the curve's last rate it is flat, this project's own; a curve
-- without rates, which no valid book has, counts as 0.
abbrev pub base_rate : List ℤ → ℕ → Fraction
base_rate rates years = millionths (slice_index_or rates (min years (length rates) - 1) (pos 0))

-- the stress of a maturity as a share of the rate; 7000 seventieths of a percent make the whole
abbrev pub share_at : List ℕ → ℕ → Fraction
share_at percentages years = over (pos (stress percentages years)) 7000 (lit< tt)

-- the rise by that share of the rate, and by one percentage point at least: Article 166
unfoldable pub raised : ℕ → Fraction → Fraction
raised years base = plus base (greater (product base (share_at rise years)) (percent 1))

-- the fall of a rate above 0 by that share of it; no other rate falls: Article 167
unfoldable pub lowered : ℕ → Fraction → Fraction
lowered years base = minus base (if int_lt (pos 0) base.num then product base (share_at fall years) else zero_fraction)

-- a rate under a stress
abbrev pub tilted : Tilt → ℕ → Fraction → Fraction
tilted Base years base = base
tilted Up years base = raised years base
tilted Down years base = lowered years base

-- the rate of a maturity in years under a stress of the curve
abbrev pub rate : List ℤ → Tilt → ℕ → Fraction
rate rates tilt years = tilted tilt years (base_rate rates years)
