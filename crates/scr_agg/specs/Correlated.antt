-- Matrices of correlation coefficients as tables, the table of parts that are not correlated, and what a root over a table asks
-- of its parts (this project's own).
use Rattle.std.specs.Prelude.{◌≡◌, ℕ, ◌+◌, ◌*◌, ◌==◌, ◌<◌, pos, neg_ℤ, ◌≤ℤ◌, List, [], ◌∷◌, map, length, sum_by, if◌then◌else◌}
use Rattle.std.specs.List.{range_with_len}
use Rattle.scr_num.specs.declared.span.Span.{Span}
use Rattle.scr_num.specs.Rounding.{Ends, ends, or_zero, quad_ends}
use Rattle.scr_num.specs.Amounts.{AreAmounts}
use Rattle.scr_num.specs.Narrow.{IsNarrow, AreNarrow}
use Rattle.scr_num.specs.Table.{Table}
use Rattle.scr_profile.specs.declared.matrix.Matrix.{Matrix}
use Rattle.scr_profile.specs.Matrix.{entry, coefficients}

-- its coefficients over its denominator
abbrev pub table_of : Matrix → Table
table_of m = record { den = or_zero m.den; rows = coefficients m }

-- so many parts of which no two are correlated: 1 where a row meets its own column, and 0 elsewhere
abbrev pub uncorrelated : ℕ → Table
uncorrelated n = record {
  den = 1;
  rows = map (λ row. map (λ column. if row == column then pos 1 else pos 0) (range_with_len 0 n)) (range_with_len 0 n);
}

-- each coefficient of the first n rows and columns is from -1 to 1
abbrev pub CellsWithin : Matrix → Type 0
CellsWithin m = (i j : ℕ) → i < m.n → j < m.n → (neg_ℤ m.den ≤ℤ entry m i j) × (entry m i j ≤ℤ m.den)

-- no low end is below 0
abbrev pub NotNegative : List Span → Type 0
NotNegative [] = Unit {0}
NotNegative (part ∷ parts) = (pos 0 ≤ℤ part.low) × NotNegative parts

-- the sum of the high ends
abbrev pub total_high : List Span → ℕ
total_high [] = 0
total_high (part ∷ parts) = or_zero part.high + total_high parts

-- the ends of each part
abbrev pub all_ends : List Span → List Ends
all_ends parts = map ends parts

-- A root over the table is at most one more than k times as wide as its parts, which are amounts, are together.
abbrev pub SpreadsBy : ℕ → Matrix → Type 0
SpreadsBy k m =
    (mosts widths : List ℕ) (parts : List Ends) → length parts ≡ m.n → AreAmounts mosts parts
    → AreNarrow widths parts → IsNarrow (k * sum_by (λ w. w) widths + 1) (quad_ends parts (table_of m))
