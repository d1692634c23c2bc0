-- The figures of rows, written row by row at their numbers (this project's own).
use Rattle.std.specs.Prelude.{◌≡◌, ◌⊎◌, ℕ, ◌+◌, ◌<◌, ◌≤◌, ◌++◌, Bool, true, false, List, [], ◌∷◌, Some, length, slice_get}
use Rattle.scr_num.specs.declared.span.Span.{Span}
use Rattle.scr_parallel.specs.Rows.{Row, rows_of, times_row}
use Rattle.scr_parallel.specs.declared.rows.Part.{Part}
use Rattle.scr_sheet.specs.declared.sheet.BalanceSheet.{BalanceSheet}
use Rattle.scr_ids.specs.Ranges.{IsAt}
use Rattle.scr_ids.specs.declared.table.Table.TheVariants as tables
use Rattle.scr_nodes.specs.Live.{is_live}
use Rattle.scr_nodes.specs.declared.node.Node.{Node}
use Rattle.scr_nodes.specs.declared.node.Node.TheVariants as nodes
use Rattle.scr_nodes.specs.declared.node.OfSecurity.TheVariants as of_securities
use Rattle.scr_figure_ids.specs.Numbers.{StandsAt}
use Rattle.scr_tree.specs.Figures.{HasFigure, reckoning_of}
use Rattle.scr_tree.specs.RowSpans.{IsOfRow}
use Rattle.scr_partial_sums.specs.declared.figure.Figure.{Figure}
use Rattle.scr_tree.specs.declared.making.Ground.{Ground}

-- the figure is reckoned with the others of its row
abbrev pub is_by_row : Node → Bool
is_by_row (nodes.Security name of_securities.Total) = false
is_by_row (nodes.Security name what) = true
is_by_row (nodes.Liability name what) = true
is_by_row (nodes.Group name what) = true
is_by_row node = false

-- the rows that lie in the pieces of these parts
abbrev pub rows_among : List Part → List Row
rows_among [] = []
rows_among (part ∷ parts) = rows_of part.pieces.items ++ rows_among parts

-- the figure is of one of these rows
pub record IsOfRows (sheet : BalanceSheet) (rows : List Row) (node : Node) : Type 0 where
  pub one : Row
  pub among : 0 < times_row one rows
  pub of_row : IsOfRow sheet one.sort one.place node

-- A figure with this span that rests on no open choice (own).
abbrev pub plain_of : Span → Figure
plain_of span = record { span = span; close = false }

-- these spans stand at the numbers from one on, as figures that rest on no choice
pub record IsWrittenAt (first : ℕ) (spans : List Span) (before now : List Figure) : Type 0 where
  pub count : length now ≡ length before
  pub there : (j : ℕ) (span : Span) → slice_get spans j ≡ Some span → slice_get now (first + j) ≡ Some (plain_of span)
  pub others : (number : ℕ) → (number < first) ⊎ (first + length spans ≤ number) → slice_get now number ≡ slice_get before number

-- the figures of these rows that live are there, what was there is there still, and so are all Blocks
pub record IsWrittenOf (ground : Ground) (rows : List Row) (before now : List Figure) : Type 0 where
  pub count : length now ≡ length before
  pub each : (node : Node) (number : ℕ) → StandsAt ground.inputs.book.now.sheet ground.places.now node number
      → IsOfRows ground.inputs.book.now.sheet rows node
      → HasFigure (reckoning_of ground.inputs.factors.now ground.inputs.book.now.sheet) now number node
  pub kept : (node : Node) (number : ℕ) → StandsAt ground.inputs.book.now.sheet ground.places.now node number
      → is_live ground.inputs.book.now.sheet node ≡ true
      → HasFigure (reckoning_of ground.inputs.factors.now ground.inputs.book.now.sheet) before number node
      → HasFigure (reckoning_of ground.inputs.factors.now ground.inputs.book.now.sheet) now number node
  pub parts : (slot j number : ℕ) → IsAt ground.places.now tables.Part slot j number → slice_get now number ≡ slice_get before number
