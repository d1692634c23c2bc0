use Rattle.scr_member_lists.proofs.Places.{left-come, back_at-left}
use Rattle.scr_member_lists.proofs.laws.moves_back.Goals as goal

pub returns-clause-came : goal.returns-clause-came
returns-clause-came c = left-come

pub returns-clause-left : goal.returns-clause-left
returns-clause-left c = back_at-left
