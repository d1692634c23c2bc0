use Rattle.scr_loss.proofs.BscrBounds.{root-again, known-same, diversification-encloses, diversification-size}
use Rattle.scr_loss.proofs.laws.diversified.Goals as goal

pub returns-clause-root : goal.returns-clause-root
returns-clause-root c = root-again

pub returns-clause-known : goal.returns-clause-known
returns-clause-known c = known-same

pub returns-clause-encloses : goal.returns-clause-encloses
returns-clause-encloses c = diversification-encloses

pub returns-clause-size : goal.returns-clause-size
returns-clause-size c = diversification-size
