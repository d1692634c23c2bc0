use Rattle.scr_ids.proofs.Back.{came-back, went-back}
use Rattle.scr_ids.proofs.laws.moves_back.Goals as goal

pub returns-clause-came : goal.returns-clause-came
returns-clause-came c = came-back

pub returns-clause-went : goal.returns-clause-went
returns-clause-went c = went-back
