use Rattle.scr_bio.proofs.BiometricBounds.{health_cat-encloses, health_cat-size}
use Rattle.scr_bio.proofs.laws.health_cat.Goals as goal

pub returns-clause-encloses : goal.returns-clause-encloses
returns-clause-encloses c = health_cat-encloses

pub returns-clause-size : goal.returns-clause-size
returns-clause-size c = health_cat-size
