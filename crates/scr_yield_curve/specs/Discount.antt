-- The discount of a payment, and the present value of payments: what they are worth now at risk-free rates (Directive
-- 2009/138/EC, Article 77(2)). Nothing is rounded.
use Rattle.std.specs.Prelude.{ℕ, zero, suc, ℤ, pos, List}
use Rattle.scr_num.specs.Fraction.{Fraction, whole, plus, product, reciprocal}
use Rattle.scr_num.specs.Sums.{weighted_sum}

-- what one grows to in a year
abbrev pub growth : Fraction → Fraction
growth rate = plus (whole (pos 1)) rate

-- the product of so many times p
unfoldable pub power : Fraction → ℕ → Fraction
power p zero = whole (pos 1)
power p (suc times) = product p (power p times)

-- what one that is paid after so many years is worth now: 1 / (1 + rate) ^ years
unfoldable pub discount_exact : Fraction → ℕ → Fraction
discount_exact rate years = reciprocal (power (growth rate) years)

-- the present value of payments after 1, 2, 3 and more years, each at the rate of its maturity
abbrev pub present_exact : List ℤ → (ℕ → Fraction) → Fraction
present_exact flows rate = weighted_sum (λ years. discount_exact (rate years) years) 1 flows
