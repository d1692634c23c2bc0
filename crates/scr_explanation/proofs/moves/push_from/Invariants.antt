use Rattle.std.proofs.Common.{◌≡◌, ◌++◌, drop}
use Rattle.scr_cells.specs.Table.{table}
use Rattle.scr_explanation.specs.Moves.{all_bounds, moves, moves_in}
use Rattle.scr_explanation.proofs.moves.push_from.Given as goal

-- the lines so far, and those of the cells that are left
abbrev pub invariant-loop-k : goal.invariant-loop-k
invariant-loop-k l =
    l.out.items ++ moves_in (drop l.k table) (drop l.k l.olds) (drop l.k (all_bounds l.engine.factors l.engine.sheet))
    ≡ l.fn.out.items ++ moves l.olds (all_bounds l.engine.factors l.engine.sheet)
