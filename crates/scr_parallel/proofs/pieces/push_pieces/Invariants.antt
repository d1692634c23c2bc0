use Rattle.std.proofs.Common.{◌≡◌, ◌++◌, ◌-◌, ◌≤◌}
use Rattle.std.specs.List.{AllByRecursion}
use Rattle.scr_parallel.specs.Rows.{IsWithin, rows_from, rows_of}
use Rattle.scr_parallel.proofs.pieces.push_pieces.Given as goal

-- the rows so far lie in pieces
abbrev pub invariant-loop-from : goal.invariant-loop-from
invariant-loop-from g l = record {
  low : l.from ≤ l.rows;
  rows_are : rows_of l.pieces.items ≡ rows_of l.initial.pieces.items ++ rows_from l.sort 0 l.from;
  within : AllByRecursion (IsWithin (g.P.RowPlan.count l.plan)) l.pieces.items;
}

abbrev pub decreases-loop-from : goal.decreases-loop-from
decreases-loop-from g l = l.rows - l.from
