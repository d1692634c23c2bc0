use Rattle.scr_num.proofs.Weights.{worths-differ, amounts-differ, Encloses-equal}
use Rattle.scr_num.proofs.laws.weighted_sums.Goals as goal

pub returns-clause-worths : goal.returns-clause-worths
returns-clause-worths c = worths-differ

pub returns-clause-amounts : goal.returns-clause-amounts
returns-clause-amounts c = amounts-differ

pub returns-clause-equal : goal.returns-clause-equal
returns-clause-equal c = Encloses-equal
