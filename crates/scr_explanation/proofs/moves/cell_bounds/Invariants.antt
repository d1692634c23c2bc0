use Rattle.std.proofs.Common.{◌≡◌, ◌++◌, drop, map}
use Rattle.scr_cells.specs.Table.{table}
use Rattle.scr_explanation.specs.Moves.{all_bounds, cell_bounds}
use Rattle.scr_explanation.proofs.moves.cell_bounds.Given as goal

-- the bounds so far, and those of the cells that are left
abbrev pub invariant-loop-k : goal.invariant-loop-k
invariant-loop-k l =
    l.bounds.items ++ map (cell_bounds l.engine.factors l.engine.sheet) (drop l.k table)
    ≡ all_bounds l.engine.factors l.engine.sheet
