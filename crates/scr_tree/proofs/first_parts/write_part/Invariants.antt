use Rattle.std.proofs.Common.{drop, take}
use Rattle.scr_parallel.specs.Rows.{AreOfRows, rows_of}
use Rattle.scr_tree.specs.RowSpans.{IsRowOf}
use Rattle.scr_tree.specs.Written.{IsWrittenOf}
use Rattle.scr_tree.proofs.first_parts.write_part.Given as goal

-- the pieces so far are written, and the spans of the others are left
abbrev pub invariant-loop-piece : goal.invariant-loop-piece
invariant-loop-piece l = record {
  rest : AreOfRows (IsRowOf l.ground.inputs.factors.now l.ground.inputs.book.now.sheet) (rows_of (drop l.piece-index l.part.pieces.items)) l.rest;
  written : IsWrittenOf l.ground (rows_of (take l.piece-index l.part.pieces.items)) l.fn.figures l.figures;
}
