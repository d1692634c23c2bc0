-- Discounts in whole numbers, rounded outward, this project's own.
use Rattle.std.specs.Prelude.{ℕ, zero, suc, ◌+◌, ◌<◌, length, ℤ, pos, ◌+ℤ◌, ◌≤ℤ◌, List, [], ◌∷◌, slice_index_or}
use Rattle.scr_num.specs.Fraction.{Fraction, ◌≼◌, whole, product}
use Rattle.scr_num.specs.Figure.{Frac}
use Rattle.scr_num.specs.Rounding.{Ends, exact_ends, scale_ends, or_zero}
use Rattle.scr_num.specs.Enclosure.{Encloses}
use Rattle.scr_yield_curve.specs.Discount.{growth, power, discount_exact}
use Rattle.scr_yield_curve.specs.Parts.{parts}
use Rattle.scr_yield_curve.specs.declared.table.TheConstants.{MAX_DISCOUNT}

-- one, in the unit of a discount
abbrev pub one : ℕ
one = 1000000000000000000

-- Both ends are one after no year, and are divided by one plus the rate once a year.
unfoldable pub discount_ends : ℤ → ℕ → Ends
discount_ends rate zero = exact_ends (pos one)
discount_ends rate (suc years) = scale_ends (discount_ends rate years) parts (or_zero (pos parts +ℤ rate))

-- the discounts at the rates of a curve, the first of which is the rate of so many years
unfoldable pub ends_from : ℕ → List ℤ → List Ends
ends_from years [] = []
ends_from years (rate ∷ curve) = discount_ends rate years ∷ ends_from (years + 1) curve

-- the discounts of payments after 1, 2, 3 and more years
abbrev pub table_ends : List ℤ → List Ends
table_ends curve = ends_from 1 curve

-- the most that the ends of a discount are apart: each of 100 years rounds twice, and at -1 % a year widens the gap
abbrev pub discount_width : ℕ
discount_width = 548

-- from 0 to the most that one is worth
pub record IsDiscount (ends : Ends) : Type 0 where
  pub low : pos 0 ≤ℤ ends.low
  pub ordered : ends.low ≤ℤ ends.high
  pub high : ends.high ≤ℤ pos MAX_DISCOUNT

-- of the power of the growth after so many years, the low end makes at most one and the high end at least one
pub record IsAboutPower (ends : Ends) (rate : Fraction) (years : ℕ) : Type 0 where
  pub low : product (whole ends.low) (power (growth rate) years) ≼ whole (pos one)
  pub high : whole (pos one) ≼ product (whole ends.high) (power (growth rate) years)

-- the ends, from 1 year on, lie about the powers of the growth at the rate of each maturity
pub record AreAboutPowers (rate : ℕ → Fraction) (table : List Ends) : Type 0 where
  pub each : (k : ℕ) (d : Ends) → k < length table → IsAboutPower (slice_index_or table k d) (rate (k + 1)) (k + 1)

-- the ends, from 1 year on, enclose the discounts at the rate of each maturity
pub record EncloseDiscounts (rate : ℕ → Fraction) (table : List Ends) : Type 0 where
  pub each : (k : ℕ) (d : Ends) → k < length table
      → Encloses one (slice_index_or table k d).low (slice_index_or table k d).high (Frac (discount_exact (rate (k + 1)) (k + 1)))
