use Rattle.scr_bio.proofs.BiometricBounds.{life-encloses, life-size}
use Rattle.scr_bio.proofs.laws.life.Goals as goal

pub returns-clause-encloses : goal.returns-clause-encloses
returns-clause-encloses c = life-encloses

pub returns-clause-size : goal.returns-clause-size
returns-clause-size c = life-size
