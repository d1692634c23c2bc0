-- Rates in seven-billionths, this project's own: a millionth times a seventieth of a percent is one of these parts, so
-- that each stressed rate is a whole number of them.
use Rattle.std.specs.Prelude.{ℕ, ◌+◌, ◌<◌, ◌≤◌, All, length, map, ℤ, pos, neg_ℤ, ◌*ℤ◌, ◌≤ℤ◌, List, slice_index_or}
use Rattle.std.specs.List.{range_with_len}
use Rattle.scr_num.specs.Fraction.{Fraction}
use Rattle.scr_num.specs.Rounding.{floor_div}
use Rattle.scr_num.specs.Enclosure.{Measures}
use Rattle.scr_yield_curve.specs.Rate.{rate}
use Rattle.scr_yield_curve.specs.declared.tilt.Tilt.{Tilt}

-- the parts in one
abbrev pub parts : ℕ
parts = 7000000000

-- a rate in parts
abbrev pub in_parts : Fraction → ℤ
in_parts rate = floor_div (rate.num *ℤ pos parts) rate.den

-- a rate that may be handed in, in millionths: from -1 % to 20 %
pub record IsRateInMillionths (rate : ℤ) : Type 0 where
  pub low : neg_ℤ (pos 10000) ≤ℤ rate
  pub high : rate ≤ℤ pos 200000

-- a rate that may be discounted by, in parts: from -1 % to 40 %
pub record IsRateInParts (rate : ℤ) : Type 0 where
  pub low : neg_ℤ (pos 70000000) ≤ℤ rate
  pub high : rate ≤ℤ pos 2800000000

-- these numbers of parts are exactly the rates of the maturities from 1 year on
pub record AreRates (curve : List ℤ) (rate : ℕ → Fraction) : Type 0 where
  pub each : (k : ℕ) (d : ℤ) → k < length curve → Measures parts (slice_index_or curve k d) (rate (k + 1))

-- the yearly rates of a curve in millionths: one or more, each within its limits
pub record IsCurveInMillionths (rates : List ℤ) : Type 0 where
  pub some : 1 ≤ length rates
  pub limits : All IsRateInMillionths rates

-- the rates after 1 to 100 years under a stress of a curve, in parts
unfoldable pub rates_in_parts : List ℤ → Tilt → List ℤ
rates_in_parts rates tilt = map (λ years. in_parts (rate rates tilt years)) (range_with_len 1 100)
