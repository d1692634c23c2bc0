use Rattle.scr_profile.proofs.StressRules.{interest_up, interest_down}
use Rattle.scr_profile.proofs.laws.interest_rate_stresses.Goals as goal

pub returns-clause-up : goal.returns-clause-up
returns-clause-up c = interest_up

pub returns-clause-down : goal.returns-clause-down
returns-clause-down c = interest_down
