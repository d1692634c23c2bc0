use Rattle.scr_sum_slots.proofs.Members.{came, gone, returned}
use Rattle.scr_sum_slots.proofs.laws.firsts.Goals as goal

pub returns-clause-came : goal.returns-clause-came
returns-clause-came c = came

pub returns-clause-left : goal.returns-clause-left
returns-clause-left c = gone

pub returns-clause-back : goal.returns-clause-back
returns-clause-back c = returned
