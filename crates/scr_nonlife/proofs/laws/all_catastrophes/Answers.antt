use Rattle.scr_nonlife.proofs.NonlifeBounds.{cat-encloses, cat-size}
use Rattle.scr_nonlife.proofs.laws.all_catastrophes.Goals as goal

pub returns-clause-encloses : goal.returns-clause-encloses
returns-clause-encloses c = cat-encloses

pub returns-clause-size : goal.returns-clause-size
returns-clause-size c = cat-size
