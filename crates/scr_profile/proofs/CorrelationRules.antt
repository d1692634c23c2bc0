-- A matrix whose places pass a test is one of correlation coefficients.
use Rattle.std.proofs.Common.{◌≡◌, ℕ, ◌<◌, Bool, true, ◌&&◌, nat_le, arith, ℤ, pos, neg_ℤ, ◌<ℤ◌, ◌≤ℤ◌, int_lt, int_le}
use Rattle.std.proofs.Common.{int_eq}
use Rattle.std.specs.List.{list_all, range_with_len}
use Rattle.std.proofs.lemmas.Bool.{and_parts, leb-true}
use Rattle.std.proofs.lemmas.Int.{ints}
use Rattle.scr_profile.specs.declared.matrix.Matrix.{Matrix}
use Rattle.scr_profile.specs.Matrix.{entry, IsCorrelation}
use Rattle.scr_profile.proofs.Ranges.{all-range}

-- the tests of two places, and of one on the diagonal
abbrev pub pair_passes : Matrix → ℕ → ℕ → Bool
pair_passes m i j =
    int_le (neg_ℤ m.den) (entry m i j) && (int_le (entry m i j) m.den && int_eq (entry m i j) (entry m j i))

abbrev pub row_passes : Matrix → ℕ → Bool
row_passes m i = int_eq (entry m i i) m.den && list_all (pair_passes m i) (range_with_len 0 m.n)

abbrev pub is_correlation : Matrix → Bool
is_correlation m =
    (nat_le 1 m.n && nat_le m.n 16) && (int_lt (pos 0) m.den && list_all (row_passes m) (range_with_len 0 m.n))

int_le-true : (a b : ℤ) → int_le a b ≡ true → a ≤ℤ b
int_le-true a b e = grind (arith, ints)

int_lt-true : (a b : ℤ) → int_lt a b ≡ true → a <ℤ b
int_lt-true a b e = grind (arith, ints)

pub int_eq-true : (a b : ℤ) → int_eq a b ≡ true → a ≡ b
int_eq-true a b e = grind (arith, ints)

pub is_correlation-holds : (m : Matrix) → is_correlation m ≡ true → IsCorrelation m
is_correlation-holds m h =
    let (size, rest) = and_parts _ _ h in
    let (least, most) = and_parts _ _ size in
    let (den, rows) = and_parts _ _ rest in
    let row : (i : ℕ) → i < m.n → row_passes m i ≡ true =
    λ i lt. all-range (row_passes m) 0 m.n i rows (omega arith) (omega arith) in
    let pair : (i j : ℕ) → i < m.n → j < m.n → pair_passes m i j ≡ true = λ i j a b.
    all-range (pair_passes m i) 0 m.n j (and_parts _ _ (row i a)).1 (omega arith) (omega arith) in
    record {
      size = (leb-true 1 m.n least, leb-true m.n 16 most);
      denominator = int_lt-true (pos 0) m.den den;
      within = λ i j a b. (
        int_le-true _ _ (and_parts _ _ (pair i j a b)).0,
        int_le-true _ _ (and_parts _ _ (and_parts _ _ (pair i j a b)).1).0,
      );
      symmetric = λ i j a b. int_eq-true _ _ (and_parts _ _ (and_parts _ _ (pair i j a b)).1).1;
      diagonal = λ i a. int_eq-true _ _ (and_parts _ _ (row i a)).0;
    }
