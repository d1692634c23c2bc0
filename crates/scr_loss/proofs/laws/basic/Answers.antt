use Rattle.scr_loss.proofs.BscrBounds.{bscr-encloses, intangible-encloses, bscr-size}
use Rattle.scr_loss.proofs.laws.basic.Goals as goal

pub returns-clause-encloses : goal.returns-clause-encloses
returns-clause-encloses c = bscr-encloses

pub returns-clause-intangible : goal.returns-clause-intangible
returns-clause-intangible c = intangible-encloses

pub returns-clause-size : goal.returns-clause-size
returns-clause-size c = bscr-size
