use Rattle.scr_figure_ids.proofs.Told.{family-listed}
use Rattle.scr_figure_ids.proofs.laws.families.Goals as goal

pub returns : goal.returns
returns c = λ sheet what live. family-listed what live
