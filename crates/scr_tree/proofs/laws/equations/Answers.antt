use Rattle.scr_tree.proofs.PointEquations.{obeys, opens}
use Rattle.scr_tree.proofs.laws.equations.Goals as goal

pub returns-clause-worth : goal.returns-clause-worth
returns-clause-worth c = obeys

pub returns-clause-close : goal.returns-clause-close
returns-clause-close c = opens
