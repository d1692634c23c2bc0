use Rattle.std.proofs.Common.{◌∙◌}
use Rattle.scr_partial_sums.proofs.Cells.{one-kept}
use Rattle.scr_partial_sums.proofs.Marks.{here-own}
use Rattle.scr_partial_sums.proofs.cell.Mark.new.Goals as goal

pub returns-clause-there : goal.returns-clause-there
returns-clause-there c =
    let bits = c.cell.inside.bits in
    here-own bits _ c.args.figure.now (one-kept bits _ c.cell.inside.ordered ∙ c.cell.view_is ∙ c.in_ok-cell.ensures.there)
