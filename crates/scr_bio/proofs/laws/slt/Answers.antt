use Rattle.scr_bio.proofs.BiometricBounds.{slt-encloses, slt-size}
use Rattle.scr_bio.proofs.laws.slt.Goals as goal

pub returns-clause-encloses : goal.returns-clause-encloses
returns-clause-encloses c = slt-encloses

pub returns-clause-size : goal.returns-clause-size
returns-clause-size c = slt-size
