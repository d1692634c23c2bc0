use Rattle.std.proofs.Common.{◌≡◌, ℕ, ◌<◌, Some}
use Rattle.std.specs.Prelude.{option_map, slice_get}
use Rattle.scr_cells.specs.Table.{NamedFigure, table}
use Rattle.scr_explain.proofs.question.cell_named.Given as goal

-- no cell so far has the name
abbrev pub invariant-loop-k : goal.invariant-loop-k
invariant-loop-k l =
    (j : ℕ) → j < l.k → option_map (λ (cell : NamedFigure). cell.name) (slice_get table j) ≡ Some l.name → ⊥
