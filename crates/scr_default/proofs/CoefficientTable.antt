-- The coefficients of the variance as quotients of whole numbers, and the table of probabilities, place by place.
use Rattle.std.proofs.Common.{◌≡◌, ℕ, ◌*◌, ◌^◌, ◌<◌, ◌≤◌, Bool, true, ◌&&◌, nat_le, nat_lt, int_eq, ℤ, pos, ◌*ℤ◌, refl, arith}
use Rattle.std.specs.List.{list_all, range_with_len}
use Rattle.std.proofs.lemmas.Bool.{and_parts, leb-true, ltb-true}
use Rattle.std.proofs.lemmas.Int.{ints}
use Rattle.scr_num.specs.Fraction.{Fraction}
use Rattle.scr_profile.proofs.Ranges.{all-range}
use Rattle.scr_default.specs.Probabilities.{probability_of_class}
use Rattle.scr_default.specs.Variance.{between_coefficient, within_coefficient}
use Rattle.scr_default.specs.VarianceEnds.{between_num, between_den, within_num, within_den}

-- num / den is the coefficient, is at most a fortieth, and leaves room in 128 bits
pub record IsQuotient (c : Fraction) (num den : ℕ) : Type 0 where
  pub positive : 0 < den
  pub small : 40 * num ≤ den
  pub fits : den * num < 2 ^ 127
  pub equal : c.num *ℤ pos den ≡ pos num *ℤ pos c.den

abbrev is_quotient : Fraction → ℕ → ℕ → Bool
is_quotient c num den =
    nat_lt 0 den
    && (nat_le (40 * num) den
    && (nat_lt (den * num) (2 ^ 127) && int_eq (c.num *ℤ pos den) (pos num *ℤ pos c.den)))

int_eq-true : (a b : ℤ) → int_eq a b ≡ true → a ≡ b
int_eq-true a b e = grind (arith, ints)

is_quotient-holds : (c : Fraction) (num den : ℕ) → is_quotient c num den ≡ true → IsQuotient c num den
is_quotient-holds c num den h =
    let (positive, rest) = and_parts _ _ h in
    let (small, rest') = and_parts _ _ rest in
    let (fits, equal) = and_parts _ _ rest' in
    record {
      positive = ltb-true _ _ positive;
      small = leb-true _ _ small;
      fits = ltb-true _ _ fits;
      equal = int_eq-true _ _ equal;
    }

-- ---- between classes
abbrev between_passes : ℕ → ℕ → Bool
between_passes j k =
    is_quotient (between_coefficient (probability_of_class j) (probability_of_class k)) (between_num j k)
    (between_den j k)

all_between : list_all (λ j. list_all (between_passes j) (range_with_len 0 6)) (range_with_len 0 6) ≡ true
unfolding between_coefficient between_num between_den
all_between = refl

pub between-quotient : (j k : ℕ) → j < 6 → k < 6
    → IsQuotient (between_coefficient (probability_of_class j) (probability_of_class k)) (between_num j k)
    (between_den j k)
between-quotient j k a b =
    let row = all-range (λ j. list_all (between_passes j) (range_with_len 0 6)) 0 6 j all_between (omega arith)
    (omega arith) in
    is_quotient-holds _ _ _ (all-range (between_passes j) 0 6 k row (omega arith) (omega arith))

-- ---- within a class
abbrev within_passes : ℕ → Bool
within_passes j = is_quotient (within_coefficient (probability_of_class j)) (within_num j) (within_den j)

all_within : list_all within_passes (range_with_len 0 6) ≡ true
unfolding within_coefficient within_num within_den
all_within = refl

pub within-quotient : (j : ℕ) → j < 6 → IsQuotient (within_coefficient (probability_of_class j)) (within_num j)
    (within_den j)
within-quotient j a = is_quotient-holds _ _ _ (all-range within_passes 0 6 j all_within (omega arith) (omega arith))
