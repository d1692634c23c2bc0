use Rattle.scr_bio.proofs.BiometricBounds.{nslt-encloses, nslt-size}
use Rattle.scr_bio.proofs.laws.nslt.Goals as goal

pub returns-clause-encloses : goal.returns-clause-encloses
returns-clause-encloses c = nslt-encloses

pub returns-clause-size : goal.returns-clause-size
returns-clause-size c = nslt-size
