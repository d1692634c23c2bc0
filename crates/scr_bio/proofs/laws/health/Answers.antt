use Rattle.scr_bio.proofs.BiometricBounds.{health-encloses, health-size}
use Rattle.scr_bio.proofs.laws.health.Goals as goal

pub returns-clause-encloses : goal.returns-clause-encloses
returns-clause-encloses c = health-encloses

pub returns-clause-size : goal.returns-clause-size
returns-clause-size c = health-size
