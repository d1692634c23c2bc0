use Rattle.std.proofs.Common.{◌-◌, ◌++◌, List}
use Rattle.scr_parallel.specs.Rows.{AreOfRows, Row, rows_from, rows_in}
use Rattle.scr_tree.specs.RowSpans.{IsRowOf}
use Rattle.scr_tree.specs.Written.{IsWrittenOf}
use Rattle.scr_tree.proofs.first_parts.write_piece.Given as goal

-- the rows so far are written, and the spans of the others are left
abbrev pub invariant-loop-k : goal.invariant-loop-k
invariant-loop-k l = record {
  rest : (more : List Row) → AreOfRows (IsRowOf l.ground.inputs.factors.now l.ground.inputs.book.now.sheet) (rows_in l.piece ++ more) l.spans
      → AreOfRows (IsRowOf l.ground.inputs.factors.now l.ground.inputs.book.now.sheet) (rows_from l.piece.sort l.k (l.piece.end - l.k) ++ more) l.rest;
  written : IsWrittenOf l.ground (rows_from l.piece.sort l.piece.from (l.k - l.piece.from)) l.fn.figures l.figures;
}
