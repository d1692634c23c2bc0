use Rattle.scr_agg.proofs.NetAmounts.{Encloses-net}
use Rattle.scr_agg.proofs.ChosenAmounts.{Encloses-left, amount-net}
use Rattle.scr_agg.proofs.laws.absorption.Goals as goal

pub returns-clause-encloses : goal.returns-clause-encloses
returns-clause-encloses c = Encloses-net

pub returns-clause-fraction : goal.returns-clause-fraction
returns-clause-fraction c = Encloses-left

pub returns-clause-size : goal.returns-clause-size
returns-clause-size c = amount-net
