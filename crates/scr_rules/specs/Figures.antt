-- The figures of the sources of a rule, by their places (this project's own). They are pairs of ends in the unit of their
-- node; where a source is missing, 0 stands for its figure.
use Rattle.std.specs.Prelude.{ℕ, pos, List, map, slice_index_or}
use Rattle.std.specs.List.{range_with_len}
use Rattle.scr_num.specs.Rounding.{Ends, exact_ends, or_zero}

-- the figure of the source at a place
abbrev pub figure_at : List Ends → ℕ → Ends
figure_at figures k = slice_index_or figures k (exact_ends (pos 0))

-- a figure that is a whole number, as that number
abbrev pub amount_of : Ends → ℕ
amount_of e = or_zero e.low

abbrev pub amount_at : List Ends → ℕ → ℕ
amount_at figures k = amount_of (figure_at figures k)

-- so many figures from a place on
abbrev pub figures_from : List Ends → (first count : ℕ) → List Ends
figures_from figures first count = map (figure_at figures) (range_with_len first count)

abbrev pub amounts_from : List Ends → (first count : ℕ) → List ℕ
amounts_from figures first count = map (amount_at figures) (range_with_len first count)
