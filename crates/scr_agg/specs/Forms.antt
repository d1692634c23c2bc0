-- The form of a matrix by the signs of its cells, as it is worked out (this project's own).
use Rattle.std.specs.Prelude.{ℕ, suc, ◌+◌, ◌*◌, ℤ, pos, negsuc, List, map, unsigned_abs}
use Rattle.scr_num.specs.Table.{row_sum, sum_over}
use Rattle.scr_num.specs.declared.span.Span.{Span}
use Rattle.scr_agg.specs.declared.form.Side.{Side}
use Rattle.scr_agg.specs.declared.form.Side.TheVariants.{Low, High}
use Rattle.scr_agg.specs.declared.form.Sign.{Sign}
use Rattle.scr_agg.specs.declared.form.Sign.TheVariants.{Positive, Negative}

-- the magnitude of an end
abbrev pub end_of : Side → Span → ℕ
end_of Low part = unsigned_abs part.low
end_of High part = unsigned_abs part.high

-- the magnitude of a cell of that sign, and 0 of another
abbrev pub weight_of : Sign → ℤ → ℕ
weight_of Positive (pos c) = c
weight_of Positive (negsuc c) = 0
weight_of Negative (pos c) = 0
weight_of Negative (negsuc c) = suc c

abbrev pub weighed : Sign → ℤ → ℕ → ℕ → ℕ
weighed sign c x y = weight_of sign c * (x * y)

-- along one row, whose part has the end x
abbrev pub row_of : Side → Sign → ℕ → List ℤ → List Span → ℕ
row_of side sign x cells parts = row_sum 0 ◌+◌ (weighed sign) x cells (map (end_of side) parts)

-- over all cells
abbrev pub form_of : Side → Sign → List (List ℤ) → List Span → ℕ
form_of side sign cells parts =
    sum_over 0 ◌+◌ (weighed sign) cells (map (end_of side) parts) (map (end_of side) parts)
