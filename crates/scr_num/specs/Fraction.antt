-- Fractions of any size, this project's own: the exact figures are made of them, and nothing of them is
-- rounded. A fraction is a pair of whole numbers with a positive denominator; it need not be in lowest terms.
use Rattle.std.specs.Prelude.{ℕ, zero, suc, ◌*◌, ◌<◌, ℤ, pos, negsuc, ◌+ℤ◌, ◌-ℤ◌, ◌*ℤ◌, ◌≤ℤ◌, Bool, int_lt, if◌then◌else◌}
use Rattle.std.proofs.Common.{mul-pos, lit<, zero-lt-suc}

pub record Fraction : Type 0 where
  pub num : ℤ
  pub den : ℕ
  pub positive : 0 < den

-- a fraction of at least 0
pub record Share : Type 0 where
  pub num : ℕ
  pub den : ℕ
  pub positive : 0 < den

infix 50 ◌≼◌
-- p is at most q, by cross products
pub record ◌≼◌ (p q : Fraction) : Type 0 where
  pub cross : (p.num *ℤ pos q.den) ≤ℤ (q.num *ℤ pos p.den)

-- z / den
abbrev pub over : ℤ → (den : ℕ) → 0 < den → Fraction
over z den positive = record { num = z; den = den; positive = positive }

abbrev pub whole : ℤ → Fraction
whole z = over z 1 (lit< tt)

abbrev pub zero_fraction : Fraction
zero_fraction = whole (pos 0)

abbrev pub percent : ℕ → Fraction
percent n = over (pos n) 100 (lit< tt)

abbrev pub millionths : ℤ → Fraction
millionths z = over z 1_000_000 (lit< tt)

abbrev pub plus : Fraction → Fraction → Fraction
plus p q = over (p.num *ℤ pos q.den +ℤ q.num *ℤ pos p.den) (p.den * q.den) (mul-pos p.positive q.positive)

abbrev pub minus : Fraction → Fraction → Fraction
minus p q = over (p.num *ℤ pos q.den -ℤ q.num *ℤ pos p.den) (p.den * q.den) (mul-pos p.positive q.positive)

abbrev pub product : Fraction → Fraction → Fraction
product p q = over (p.num *ℤ q.num) (p.den * q.den) (mul-pos p.positive q.positive)

abbrev pub square : Fraction → Fraction
square p = product p p

-- den / num of a numerator above 0, and 0 of any other
abbrev pub reciprocal_of : ℤ → ℕ → Fraction
reciprocal_of (pos zero) den = zero_fraction
reciprocal_of (pos (suc n)) den = over (pos den) (suc n) (zero-lt-suc n)
reciprocal_of (negsuc n) den = zero_fraction

-- 1 / p, where p is above 0
abbrev pub reciprocal : Fraction → Fraction
reciprocal p = reciprocal_of p.num p.den

-- p is below q, as a test
abbrev pub is_less : Fraction → Fraction → Bool
is_less p q = int_lt (p.num *ℤ pos q.den) (q.num *ℤ pos p.den)

-- the greater of the two
abbrev pub greater : Fraction → Fraction → Fraction
greater p q = if is_less p q then q else p

-- that share of p
abbrev pub times : Fraction → Share → Fraction
times p share = over (p.num *ℤ pos share.num) (p.den * share.den) (mul-pos p.positive share.positive)
