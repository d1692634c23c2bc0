use Rattle.scr_num.proofs.AmountBounds.{amount-wider, amount-exact, amount-add, amount-sum, amount-scale, amount-hull, amount-cut, amount-total, amount-max}
use Rattle.scr_num.proofs.SumLemmas.{sum_ends-within}
use Rattle.scr_num.proofs.laws.amounts.Goals as goal

pub returns-clause-wider : goal.returns-clause-wider
returns-clause-wider c = amount-wider

pub returns-clause-exact : goal.returns-clause-exact
returns-clause-exact c = amount-exact

pub returns-clause-sum : goal.returns-clause-sum
returns-clause-sum c = amount-add

pub returns-clause-sums : goal.returns-clause-sums
returns-clause-sums c = amount-sum

pub returns-clause-share : goal.returns-clause-share
returns-clause-share c = amount-scale

pub returns-clause-hull : goal.returns-clause-hull
returns-clause-hull c = amount-hull

pub returns-clause-cut : goal.returns-clause-cut
returns-clause-cut c = amount-cut

pub returns-clause-total : goal.returns-clause-total
returns-clause-total c = amount-total

pub returns-clause-greater : goal.returns-clause-greater
returns-clause-greater c = amount-max

pub returns-clause-together : goal.returns-clause-together
returns-clause-together c = sum_ends-within
