use Rattle.scr_default.proofs.Roots.{squares-le}
use Rattle.scr_default.proofs.laws.losses.Goals as goal

pub returns-clause-squares : goal.returns-clause-squares
returns-clause-squares c = squares-le
