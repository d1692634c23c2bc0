-- The stored form of a table of figures (own): a cell for each id, and the wide figures beside the cells.
use Rattle.std.specs.Prelude.{◌≡◌, ℕ, ◌+◌, ◌<◌, ◌≤◌, Bool, true, false, List, Some, length, map, slice_get, slice_index_or}
use Rattle.std.specs.List.{count_by}
use Rattle.std.specs.Vec.{vec_capacity}
use Rattle.scr_partial_sums.specs.Tables.{nothing}
use Rattle.scr_partial_sums.specs.declared.cell.Kept.{Kept}
use Rattle.scr_partial_sums.specs.declared.cell.Kept.TheVariants as kept
use Rattle.scr_partial_sums.specs.declared.figure.Figure.{Figure}
use Rattle.scr_partial_sums.specs.declared.figures.Figures.TheInside.{Inside}

-- The figure that a cell holds, itself or by its index among the wide ones (own).
abbrev pub figure_of : List Figure → Kept → Figure
figure_of wide (kept.Here figure) = figure
figure_of wide (kept.Apart place) = slice_index_or wide place nothing

-- The figures of a stored table, by id (own).
abbrev pub figures_in : Inside → List Figure
figures_in table = map (figure_of table.wide.items) table.cells.items

-- The cell holds its figure itself (own).
abbrev pub is_here : Kept → Bool
is_here (kept.Here figure) = true
is_here (kept.Apart place) = false

-- The invariant of a stored table (own): the index in a cell is one of a wide figure, and no other cell has it. There is room for
-- the figure of every other cell to become wide.
pub record IsKept (table : Inside) : Type 0 where
  pub within : (number place : ℕ) → slice_get table.cells.items number ≡ Some (kept.Apart place) → place < length table.wide.items
  pub own : (one other place : ℕ) → slice_get table.cells.items one ≡ Some (kept.Apart place)
      → slice_get table.cells.items other ≡ Some (kept.Apart place) → one ≡ other
  pub room : count_by is_here table.cells.items + length table.wide.items ≤ vec_capacity table.wide
