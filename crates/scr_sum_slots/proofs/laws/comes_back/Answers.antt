use Rattle.scr_sum_slots.proofs.Freed.{come-back}
use Rattle.scr_sum_slots.proofs.laws.comes_back.Goals as goal

pub returns : goal.returns
returns c = come-back
