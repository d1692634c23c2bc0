use Rattle.std.proofs.Common.{◌∙◌, Some, ap, sym}
use Rattle.scr_explanation.proofs.PrintedBounds.{bounds_shown}
use Rattle.scr_explanation.proofs.moves.bounds_at.Goals as goal

pub returns : goal.returns
returns c =
    bounds_shown c.args.engine.now.factors c.args.engine.now.sheet c.args.k c.cell-cell.result c.cell-cell.ensures.cell
    ∙ ap Some (sym c.printed.ensures)
