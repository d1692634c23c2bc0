use Rattle.scr_drawing.specs.Rows.{rows, seen}
use Rattle.scr_drawing.proofs.Within.{within}
use Rattle.scr_drawing.proofs.rows.row_at.Goals as goal

pub returns-clause-within : goal.returns-clause-within
unfolding rows
returns-clause-within c = within c.args.k (seen c.row_in.result.now) c.row_in.ensures
