use Rattle.std.proofs.Common.{◌∙◌}
use Rattle.scr_partial_sums.proofs.Cells.{one-kept}
use Rattle.scr_partial_sums.proofs.cell.CellClone.clone.Goals as goal

pub returns : goal.returns
returns c = record { cases = one-kept c.self.inside.bits _ c.self.inside.ordered ∙ c.self.view_is }
