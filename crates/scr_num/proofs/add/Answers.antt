use Rattle.std.proofs.Common.{arith}
use Rattle.std.proofs.lemmas.Int.{ints}
use Rattle.scr_num.proofs.AddedEnds.{same_ends}
use Rattle.scr_num.proofs.Enclosing.{Encloses-same, Encloses-add}
use Rattle.scr_num.proofs.add.Goals as goal

pub returns-clause-ends : goal.returns-clause-ends
returns-clause-ends c = same_ends _ _ _ _ (omega (arith, ints)) (omega (arith, ints))

pub returns-clause-encloses : goal.returns-clause-encloses
returns-clause-encloses c =
    λ unit f g in_a in_b. Encloses-same unit _ _ _ _ _ (omega (arith, ints)) (omega (arith, ints))
    (Encloses-add unit c.args.a.low c.args.a.high c.args.b.low c.args.b.high f g in_a in_b)
