use Rattle.scr_nonlife.proofs.NonlifeBounds.{premium_reserve-encloses, premium_reserve-size}
use Rattle.scr_nonlife.proofs.laws.premium_and_reserve.Goals as goal

pub returns-clause-encloses : goal.returns-clause-encloses
returns-clause-encloses c = premium_reserve-encloses

pub returns-clause-size : goal.returns-clause-size
returns-clause-size c = premium_reserve-size
