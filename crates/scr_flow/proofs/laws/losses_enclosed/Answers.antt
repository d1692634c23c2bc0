use Rattle.scr_flow.proofs.LossesEnclosed.{loss-encloses, payments-encloses}
use Rattle.scr_flow.proofs.laws.losses_enclosed.Goals as goal

pub returns : goal.returns
returns c = record { yearly = loss-encloses; one_by_one = payments-encloses }
