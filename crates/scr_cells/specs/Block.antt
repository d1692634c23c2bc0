-- What is printed of a balance sheet (this project's own): a block with a line for each cell, with a lower and an upper
-- bound of its figure.
use Rattle.std.specs.Prelude.{ℕ, ℤ, pos, ◌++◌, Bool, true, false, List, [], Option, codes, flat_map, option_and_then, option_map, slice_get}
use Rattle.scr_amounts.specs.Amounts.{amount}
use Rattle.scr_num.specs.Rounding.{Ends, floor_div, ceil_div}
use Rattle.scr_factors.specs.Values.{FactorValues}
use Rattle.scr_sheet.specs.declared.sheet.BalanceSheet.{BalanceSheet}
use Rattle.scr_nodes.specs.declared.node.Node.{Node}
use Rattle.scr_rules.specs.Close.{close_under}
use Rattle.scr_rules.specs.Worked.{worked}
use Rattle.scr_cells.specs.Table.{NamedFigure, requirement_cell, table}
use Rattle.scr_cells.specs.declared.bounds.Bounds.{Bounds}
use Rattle.scr_cells.specs.declared.cells.Cell.{Cell}
use Rattle.scr_widths.specs.Widths.{stated_width}

-- the printed bounds, in cents, of a figure in grains, thousandths of a cent: the lower one is rounded down, and the upper
-- one up
abbrev pub lower_bound : Ends → ℤ
lower_bound worked = floor_div worked.low 1000

abbrev pub upper_bound : Ends → ℤ
upper_bound worked = ceil_div worked.high 1000

-- both, and whether the figure rests on a choice that is left open
abbrev pub bounds_of : Ends → Bool → Bounds
bounds_of worked close = record { low = lower_bound worked; high = upper_bound worked; close = close }

-- those of a figure as it is worked out
abbrev pub bounds_at : FactorValues → BalanceSheet → Node → Bounds
bounds_at factors sheet node = bounds_of (worked factors sheet node) (close_under factors sheet node)

-- ---- a cell

abbrev pub cell_of : ℕ → Bounds → ℕ → Cell
cell_of k bounds width =
    record { index = k; low = bounds.low; high = bounds.high; close = bounds.close; width = pos width }

-- the cell of this number, from 0 in the order of the report
abbrev pub cell_at : FactorValues → BalanceSheet → ℕ → Option Cell
cell_at factors sheet k =
    option_and_then (λ cell. option_map (cell_of k (bounds_at factors sheet cell.node)) (stated_width sheet cell.node)) (slice_get table k)

-- ---- the text

-- a bound, behind a blank
unfoldable pub bound : ℤ → List ℕ
bound cents = codes " " ++ amount cents

abbrev pub close_mark : Bool → List ℕ
close_mark true = codes " close"
close_mark false = []

-- a name, its two bounds and the mark
unfoldable pub bounds_line : List ℕ → Bounds → List ℕ
bounds_line name bounds =
    (((name ++ bound bounds.low) ++ bound bounds.high) ++ close_mark bounds.close) ++ codes "\n"

unfoldable pub cell_line : FactorValues → BalanceSheet → NamedFigure → List ℕ
cell_line factors sheet cell = bounds_line cell.name (bounds_at factors sheet cell.node)

-- the line of the Solvency Capital Requirement
unfoldable pub requirement_line : FactorValues → BalanceSheet → List ℕ
requirement_line factors sheet = cell_line factors sheet requirement_cell

-- the block of a balance sheet: the lines of all its cells
unfoldable pub block_text : FactorValues → BalanceSheet → List ℕ
block_text factors sheet = flat_map (cell_line factors sheet) table
