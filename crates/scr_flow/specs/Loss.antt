-- What payments lose where interest rates change, after Article 165 of Delegated Regulation (EU) 2015/35. Nothing is
-- rounded.
use Rattle.std.specs.Prelude.{ℕ, ℤ, List}
use Rattle.scr_num.specs.Fraction.{Fraction, minus}
use Rattle.scr_num.specs.Sums.{weighted_sum}
use Rattle.scr_yield_curve.specs.Discount.{discount_exact}

-- the fall of the discount of a maturity from the one rate to the other
abbrev pub discount_fall : (ℕ → Fraction) → (ℕ → Fraction) → ℕ → Fraction
discount_fall before after years = minus (discount_exact (before years) years) (discount_exact (after years) years)

-- payments after 1, 2, 3 and more years, each times the fall of its discount
abbrev pub loss_exact : List ℤ → (ℕ → Fraction) → (ℕ → Fraction) → Fraction
loss_exact flows before after = weighted_sum (discount_fall before after) 1 flows
