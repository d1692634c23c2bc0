-- The variance of the loss distribution of the type 1 exposures, in square cents: Article 201 of Delegated Regulation
-- (EU) 2015/35. Nothing is rounded. The totals are the losses given default of the counterparties of each class of
-- probability, and the squares are the sums of their squared losses.
use Rattle.std.specs.Prelude.{ℕ, pos}
use Rattle.std.proofs.Common.{lit<}
use Rattle.scr_num.specs.Fraction.{Fraction, over, whole, plus, minus, product, reciprocal, zero_fraction}
use Rattle.scr_default.specs.Probabilities.{probability_of_class}
use Rattle.scr_default.specs.Sums.{sum_below}

-- decimal numbers of one and two places
abbrev pub tenths : ℕ → Fraction
tenths n = over (pos n) 10 (lit< tt)

abbrev pub hundredths : ℕ → Fraction
hundredths n = over (pos n) 100 (lit< tt)

-- PD (1 - PD)
abbrev pub dispersion : Fraction → Fraction
dispersion p = product p (minus (whole (pos 1)) p)

-- PD_k (1 - PD_k) PD_j (1 - PD_j) / (1.25 (PD_k + PD_j) - PD_k PD_j): Article 201(2)
unfoldable pub between_coefficient : (p q : Fraction) → Fraction
between_coefficient p q =
    product (product (dispersion q) (dispersion p))
    (reciprocal (minus (product (hundredths 125) (plus q p)) (product q p)))

-- 1.5 PD_j (1 - PD_j) / (2.5 - PD_j): Article 201(3)
unfoldable pub within_coefficient : Fraction → Fraction
within_coefficient p = product (product (tenths 15) (dispersion p)) (reciprocal (minus (tenths 25) p))

-- over the six classes
abbrev pub sum_of_classes : (ℕ → Fraction) → Fraction
sum_of_classes term = sum_below zero_fraction plus term 6

-- over all ordered pairs of classes, a class with itself among them
abbrev pub between_term_exact : (totals : ℕ → Fraction) (j k : ℕ) → Fraction
between_term_exact totals j k =
    product (between_coefficient (probability_of_class j) (probability_of_class k)) (product (totals j) (totals k))

abbrev pub between_exact : (totals : ℕ → Fraction) → Fraction
between_exact totals = sum_of_classes (λ j. sum_of_classes (between_term_exact totals j))

abbrev pub within_term_exact : (squares : ℕ → Fraction) → ℕ → Fraction
within_term_exact squares j = product (within_coefficient (probability_of_class j)) (squares j)

abbrev pub within_exact : (squares : ℕ → Fraction) → Fraction
within_exact squares = sum_of_classes (within_term_exact squares)

-- the sum of both (Article 201(1))
abbrev pub variance_exact : (totals squares : ℕ → Fraction) → Fraction
variance_exact totals squares = plus (between_exact totals) (within_exact squares)
