use Rattle.std.proofs.Common.{◌≡◌, ◌-◌}
use Rattle.scr_parallel.specs.Rows.{AreOfRows, IsPushed, rows_from}
use Rattle.scr_parallel.proofs.pieces.reckon_piece.Given as goal

-- the spans of the rows so far are pushed
abbrev pub invariant-loop-place : goal.invariant-loop-place
invariant-loop-place g l = record {
  spans : IsPushed (AreOfRows (g.P.RowPlan.is_row l.plan) (rows_from l.piece.sort l.piece.from (l.place - l.piece.from)))
      l.initial.part.spans.items l.part.spans.items;
  pieces : l.part.pieces ≡ l.initial.part.pieces;
}
