-- What is certified of the block of a balance sheet (this project's own).
use Rattle.std.specs.Prelude.{◌≡◌, ℕ, pos, ◌+ℤ◌, ◌≤ℤ◌, true, false, Some}
use Rattle.std.specs.List.{AllByRecursion}
use Rattle.scr_num.specs.Enclosure.{Encloses}
use Rattle.scr_num.specs.Figure.{Figure}
use Rattle.scr_factors.specs.Values.{FactorValues}
use Rattle.scr_sheet.specs.declared.sheet.BalanceSheet.{BalanceSheet}
use Rattle.scr_nodes.specs.declared.node.Node.{Node}
use Rattle.scr_exact.specs.Exact.{exact, exact_outcomes}
use Rattle.scr_cells.specs.Block.{bounds_at}
use Rattle.scr_cells.specs.Table.{table}
use Rattle.scr_widths.specs.Choices as choices
use Rattle.scr_widths.specs.Widths.{stated_width}

-- the figure has an exact one, which its printed bounds enclose, in cents
abbrev pub IsBounded : FactorValues → BalanceSheet → Node → Type 0
IsBounded factors sheet node =
    (figure : Figure) × (exact factors sheet node ≡ Some figure)
    × Encloses 1 (bounds_at factors sheet node).low (bounds_at factors sheet node).high figure

-- the figure rests on a choice between alternatives that are near by what they come to exactly
abbrev pub RestsOnNearChoice : FactorValues → BalanceSheet → Node → Type 0
RestsOnNearChoice factors sheet node = choices.RestsOnNearChoice factors sheet (exact_outcomes sheet) node

-- The printed bounds are no further apart than the figure's stated width, in cents, unless it is marked close: it then rests
-- on a choice between alternatives that are near.
pub record KeepsWidth (factors : FactorValues) (sheet : BalanceSheet) (node : Node) : Type 0 where
  pub width : ℕ
  pub stated : stated_width sheet node ≡ Some width
  pub narrow : (bounds_at factors sheet node).close ≡ false
      → (bounds_at factors sheet node).high ≤ℤ ((bounds_at factors sheet node).low +ℤ pos width)
  pub near : (bounds_at factors sheet node).close ≡ true → RestsOnNearChoice factors sheet node

-- of every cell the bounds enclose the exact figure and keep its stated width
pub record Certified (factors : FactorValues) (sheet : BalanceSheet) : Type 0 where
  pub enclosing : AllByRecursion (λ cell. IsBounded factors sheet cell.node) table
  pub narrow : AllByRecursion (λ cell. KeepsWidth factors sheet cell.node) table
