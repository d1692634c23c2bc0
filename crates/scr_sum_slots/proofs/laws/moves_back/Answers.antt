use Rattle.scr_sum_slots.proofs.Moving.{moved-back}
use Rattle.scr_sum_slots.proofs.laws.moves_back.Goals as goal

pub returns : goal.returns
returns c = moved-back
