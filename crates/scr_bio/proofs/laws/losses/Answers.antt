use Rattle.scr_bio.proofs.BiometricBounds.{loss-encloses, loss-not_negative, loss-size}
use Rattle.scr_bio.proofs.laws.losses.Goals as goal

pub returns-clause-encloses : goal.returns-clause-encloses
returns-clause-encloses c = loss-encloses

pub returns-clause-not_negative : goal.returns-clause-not_negative
returns-clause-not_negative c = λ sum. loss-not_negative sum.low

pub returns-clause-size : goal.returns-clause-size
returns-clause-size c = loss-size
