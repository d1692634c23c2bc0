use Rattle.std.proofs.Common.{refl, lit<}
use Rattle.scr_loss.specs.Operational.{percent_share}
use Rattle.scr_loss.proofs.operational_risk.cap.Goals as goal

pub returns-clause-encloses : goal.returns-clause-encloses
returns-clause-encloses c =
    λ f h. c.scale.ensures.encloses 1000 1000 f (percent_share 30) (record { positive = lit< tt; equal = refl }) h
