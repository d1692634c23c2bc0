-- Payments one by one, each at its own maturity (Directive 2009/138/EC, Article 77(2)). Nothing is rounded.
use Rattle.std.specs.Prelude.{ℕ, ℤ, List, [], ◌∷◌}
use Rattle.scr_num.specs.Fraction.{Fraction, whole, zero_fraction, plus, product}
use Rattle.scr_dates.specs.declared.day.Day.{Day}
use Rattle.scr_dates.specs.declared.term.Maturity.{Maturity}
use Rattle.scr_dates.specs.declared.term.Maturity.TheVariants.{Past, Years, TooFar}
use Rattle.scr_dates.specs.Years.{maturity_of}
use Rattle.scr_flow.specs.Loss.{discount_fall}

-- What one is worth at a maturity; what is past counts nothing, and what lies beyond 100 years, which no valid book has,
-- counts at its own year (this project's own).
abbrev pub worth_at : (ℕ → Fraction) → Maturity → Fraction
worth_at worth Past = zero_fraction
worth_at worth (Years n) = worth n
worth_at worth (TooFar n) = worth n

-- the sum of the payments, each times what one is worth at its own maturity from the reference date
unfoldable pub payments_exact : (ℕ → Fraction) → ℤ → List (Day × ℤ) → Fraction
payments_exact worth asof [] = zero_fraction
payments_exact worth asof (payment ∷ payments) =
    plus (product (whole payment.1) (worth_at worth (maturity_of asof payment.0.number))) (payments_exact worth asof payments)

-- what the payments lose where the rates change, each by the fall of its own discount (Article 165 of Delegated
-- Regulation (EU) 2015/35)
abbrev pub payments_loss_exact : ℤ → List (Day × ℤ) → (ℕ → Fraction) → (ℕ → Fraction) → Fraction
payments_loss_exact asof payments before after = payments_exact (discount_fall before after) asof payments
