use Rattle.scr_num.proofs.Witnesses.{lower-le-upper, AtMost-down, AtLeast-up}
use Rattle.scr_num.proofs.laws.witnesses.Goals as goal

pub returns-clause-in_order : goal.returns-clause-in_order
returns-clause-in_order c = lower-le-upper

pub returns-clause-lower_goes_down : goal.returns-clause-lower_goes_down
returns-clause-lower_goes_down c = AtMost-down

pub returns-clause-upper_goes_up : goal.returns-clause-upper_goes_up
returns-clause-upper_goes_up c = AtLeast-up
