use Rattle.scr_num.proofs.Enclosing.{Encloses-plus, Encloses-minus}
use Rattle.scr_agg.proofs.ExactAmounts.{Encloses-greater, Encloses-net_exact}
use Rattle.scr_agg.proofs.ChosenAmounts.{Encloses-counted}
use Rattle.scr_agg.proofs.laws.exact_amounts.Goals as goal

pub returns-clause-sum : goal.returns-clause-sum
returns-clause-sum c = Encloses-plus

pub returns-clause-difference : goal.returns-clause-difference
returns-clause-difference c = Encloses-minus

pub returns-clause-greater : goal.returns-clause-greater
returns-clause-greater c = Encloses-greater

pub returns-clause-net : goal.returns-clause-net
returns-clause-net c = Encloses-net_exact

pub returns-clause-counted : goal.returns-clause-counted
returns-clause-counted c = Encloses-counted
