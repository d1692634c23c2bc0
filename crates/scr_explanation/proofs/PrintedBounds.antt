-- The bounds of a cell that is handed out are those that are printed of it.
use Rattle.std.proofs.Common.{◌≡◌, ℕ, Option, None, Some, ap}
use Rattle.std.proofs.lemmas.Option.{none-some}
use Rattle.std.specs.Prelude.{option_and_then, option_map, slice_get}
use Rattle.scr_factors.specs.Values.{FactorValues}
use Rattle.scr_sheet.specs.declared.sheet.BalanceSheet.{BalanceSheet}
use Rattle.scr_cells.specs.Block.{bounds_at, cell_at, cell_of}
use Rattle.scr_cells.specs.Table.{NamedFigure, table}
use Rattle.scr_cells.specs.declared.cells.Cell.{Cell}
use Rattle.scr_explanation.specs.Moves.{cell_bounds, printed}

module _ (factors : FactorValues) (sheet : BalanceSheet) (k : ℕ) (cell : Cell) where
  -- a cell that is handed out has a width
  of-width : (shown : NamedFigure) (width : Option ℕ)
      → option_map (cell_of k (bounds_at factors sheet shown.node)) width ≡ Some cell
      → Some (cell_bounds factors sheet shown) ≡ Some (printed cell)
  of-width shown None is = absurd (none-some cell is)
  of-width shown (Some width) is = ap (option_map printed) is

  of-entry : (width : NamedFigure → Option ℕ) (entry : Option NamedFigure)
      → option_and_then (λ (shown : NamedFigure). option_map (cell_of k (bounds_at factors sheet shown.node)) (width shown)) entry
      ≡ Some cell
      → option_map (cell_bounds factors sheet) entry ≡ Some (printed cell)
  of-entry width None is = absurd (none-some cell is)
  of-entry width (Some shown) is = of-width shown (width shown) is

  pub bounds_shown : cell_at factors sheet k ≡ Some cell
      → option_map (cell_bounds factors sheet) (slice_get table k) ≡ Some (printed cell)
  bounds_shown is = of-entry _ (slice_get table k) is
