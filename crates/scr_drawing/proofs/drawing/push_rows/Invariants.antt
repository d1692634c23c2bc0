use Rattle.std.proofs.Common.{◌≡◌, ◌+◌, ◌*◌, ◌++◌, drop}
use Rattle.scr_drawing.specs.Drawing.{rows_text}
use Rattle.scr_drawing.specs.Rows.{rows}
use Rattle.scr_drawing.proofs.drawing.push_rows.Given as goal

-- the rows so far, and those below
abbrev pub invariant-loop-k : goal.invariant-loop-k
invariant-loop-k l =
    l.out.items ++ rows_text l.cells l.whole (50 + 40 * l.k) (drop l.k rows)
    ≡ l.fn.out.items ++ rows_text l.cells l.whole 50 rows
