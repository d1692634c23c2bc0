use Rattle.scr_nonlife.proofs.NonlifeBounds.{nonlife-encloses, nonlife-size}
use Rattle.scr_nonlife.proofs.laws.whole_module.Goals as goal

pub returns-clause-encloses : goal.returns-clause-encloses
returns-clause-encloses c = nonlife-encloses

pub returns-clause-size : goal.returns-clause-size
returns-clause-size c = nonlife-size
