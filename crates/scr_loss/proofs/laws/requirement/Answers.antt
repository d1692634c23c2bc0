use Rattle.scr_loss.proofs.AdjustmentBounds.{scr-encloses}
use Rattle.scr_loss.proofs.laws.requirement.Goals as goal

pub returns : goal.returns
returns c = record { encloses = scr-encloses }
