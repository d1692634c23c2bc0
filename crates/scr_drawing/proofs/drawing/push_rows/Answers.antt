use Rattle.std.proofs.Common.{◌∙◌, ◌+◌, ◌*◌, ◌++◌, ℕ, List, drop, ap, sym}
use Rattle.scr_drawing.specs.Drawing.{rows_text}
use Rattle.scr_drawing.specs.Rows.{rows}
use Rattle.scr_drawing.proofs.Below.{rows-end, rows-more}
use Rattle.scr_drawing.proofs.drawing.push_rows.Goals as goal

pub loop-k-preserved : goal.loop-k-preserved
loop-k-preserved c =
    let cells = c.args.cells.now in
    ap (λ (items : List ℕ). items ++ rows_text cells c.args.whole (50 + 40 * (c.loop-k.k + 1)) (drop (c.loop-k.k + 1) rows))
    c.in_ok-push_row.ensures
    ∙ rows-more cells c.args.whole c.loop-k.out.items c.loop-k.k _ c.row_at.ensures.row
    ∙ c.loop-k.invariant

pub returns : goal.returns
returns c =
    sym (rows-end c.args.cells.now c.args.whole c.loop-k.out.items c.loop-k.k (50 + 40 * c.loop-k.k) c.loop-k-test.false)
    ∙ c.loop-k.invariant
