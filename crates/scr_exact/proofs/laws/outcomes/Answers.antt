use Rattle.scr_exact.proofs.Enclosed.{outcomes-enclosed}
use Rattle.scr_exact.proofs.laws.outcomes.Goals as goal

pub returns : goal.returns
returns c = record { enclosed = outcomes-enclosed }
