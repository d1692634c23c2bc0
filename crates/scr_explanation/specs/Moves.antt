-- Which cells of the report differ between two balance sheets, and by how much (this project's own).
use Rattle.std.specs.Prelude.{ℕ, ◌++◌, ◌&&◌, Bool, List, [], ◌∷◌, Option, Some, None, if◌then◌else◌, codes, map}
use Rattle.std.specs.Ordering.{int_eq}
use Rattle.scr_factors.specs.Values.{FactorValues}
use Rattle.scr_sheet.specs.declared.sheet.BalanceSheet.{BalanceSheet}
use Rattle.scr_cells.specs.Block.{bounds_at}
use Rattle.scr_cells.specs.Table.{NamedFigure, table}
use Rattle.scr_cells.specs.declared.cells.Cell.{Cell}
use Rattle.scr_explanation.specs.Account.{between}
use Rattle.scr_explanation.specs.Taken.{excess}
use Rattle.scr_amounts.specs.declared.bounds.Bounds.{Bounds}

-- the printed bounds of a cell
abbrev pub cell_bounds : FactorValues → BalanceSheet → NamedFigure → Bounds
cell_bounds factors sheet cell = let b = bounds_at factors sheet cell.node in record { low = b.low; high = b.high }

-- those of a cell that is handed out
abbrev pub printed : Cell → Bounds
printed cell = record { low = cell.low; high = cell.high }

unfoldable pub all_bounds : FactorValues → BalanceSheet → List Bounds
all_bounds factors sheet = map (cell_bounds factors sheet) table

abbrev pub moved_by : Option Bounds → List ℕ
moved_by (Some by) = codes " by" ++ between by
moved_by None = []

abbrev pub is_same : Bounds → Bounds → Bool
is_same old new = int_eq old.low new.low && int_eq old.high new.high

-- the line of a cell that moved: its name, its bounds before and now, and by how much it moved
unfoldable pub move_text : List ℕ → Bounds → Bounds → List ℕ
move_text name old new =
    if is_same old new then [] else
    ((((name ++ between old) ++ codes " to") ++ between new) ++ moved_by (excess (new ∷ []) old)) ++ codes "\n"

abbrev pub moves_in : List NamedFigure → List Bounds → List Bounds → List ℕ
moves_in (cell ∷ cells) (old ∷ olds) (new ∷ news) = move_text cell.name old new ++ moves_in cells olds news
moves_in cells olds news = []

-- the lines of all cells that moved
unfoldable pub moves : List Bounds → List Bounds → List ℕ
moves old new = moves_in table old new
