-- The tables of the formula none of whose correlations is below 0.
use Rattle.std.proofs.Common.{◌≡◌, ℕ, ◌*◌, ◌<◌, ◌≤◌, Bool, true, ℤ, pos, ◌≤ℤ◌, int_le, arith}
use Rattle.std.specs.List.{list_all, range_with_len}
use Rattle.std.proofs.lemmas.Int.{ints}
use Rattle.scr_profile.specs.declared.matrix.Matrix.{Matrix}
use Rattle.scr_profile.specs.Matrix.{entry}
use Rattle.scr_profile.proofs.Ranges.{all-range}
use Rattle.scr_profile.proofs.CorrelationRules.{is_correlation, is_correlation-holds}
use Rattle.scr_agg.specs.Correlated.{SpreadsBy}
use Rattle.scr_agg.proofs.RootWidths.{narrow-table}

abbrev pub none_negative : Matrix → Bool
none_negative m =
    list_all (λ i. list_all (λ j. int_le (pos 0) (entry m i j)) (range_with_len 0 m.n)) (range_with_len 0 m.n)

int_le-true : (a b : ℤ) → int_le a b ≡ true → a ≤ℤ b
int_le-true a b e = grind (arith, ints)

pub none_negative-holds : (m : Matrix) → none_negative m ≡ true → (i j : ℕ) → i < m.n → j < m.n → pos 0 ≤ℤ entry m i j
none_negative-holds m h i j a b =
    let row = all-range (λ i. list_all (λ j. int_le (pos 0) (entry m i j)) (range_with_len 0 m.n)) 0 m.n i h (omega arith)
    (omega arith) in
    int_le-true (pos 0) (entry m i j)
    (all-range (λ j. int_le (pos 0) (entry m i j)) 0 m.n j row (omega arith) (omega arith))

-- of a table that is known, by computing
pub known-spreads : (m : Matrix) (k : ℕ) → is_correlation m ≡ true → none_negative m ≡ true → 0 < k → m.n ≤ k * k
    → SpreadsBy k m
known-spreads m k is none some size mosts widths parts count h g =
    narrow-table m k mosts widths parts (is_correlation-holds m is) (none_negative-holds m none) some size count h g
