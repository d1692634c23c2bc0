-- One more is made.
use Rattle.scr_made.specs.Rows.{row_drawn}
use Rattle.scr_made.proofs.Steps.{appends_none, appends_more}
use Rattle.scr_made.proofs.making.push_rows.Goals as goal

pub loop-k-init : goal.loop-k-init
loop-k-init c = appends_none (row_drawn c.args.rows) c.args.draws.now.state c.args.out.now.items

pub loop-k-preserved : goal.loop-k-preserved
loop-k-preserved c =
    appends_more c.loop-k.k (row_drawn c.args.rows) _ _ _ _ _ _ c.loop-k.invariant c.in_ok-push_row.ensures
