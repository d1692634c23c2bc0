use Rattle.std.proofs.Common.{arith}
use Rattle.std.proofs.lemmas.Int.{ints}
use Rattle.scr_num.proofs.AddedEnds.{same_ends}
use Rattle.scr_num.proofs.Enclosing.{Encloses-same}
use Rattle.scr_num.proofs.CentAmounts.{Encloses-cents}
use Rattle.scr_num.proofs.amounts.cents.Goals as goal

pub returns-clause-ends : goal.returns-clause-ends
returns-clause-ends c = same_ends _ _ _ _ (omega (arith, ints)) (omega (arith, ints))

pub returns-clause-encloses : goal.returns-clause-encloses
returns-clause-encloses c = Encloses-same 1000 _ _ _ _ _ (omega (arith, ints)) (omega (arith, ints)) (Encloses-cents c.args.amount)
