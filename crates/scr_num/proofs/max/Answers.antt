use Rattle.std.proofs.Common.{arith}
use Rattle.std.proofs.lemmas.Int.{ints, clamps}
use Rattle.scr_num.proofs.Enclosing.{Encloses-same, Encloses-max}
use Rattle.scr_num.proofs.max.Goals as goal

pub invariant_of-result : goal.invariant_of-result
invariant_of-result c = omega (arith, ints, clamps)

pub returns-clause-encloses : goal.returns-clause-encloses
returns-clause-encloses c =
    λ unit f g in_a in_b. Encloses-same unit _ _ _ _ _ (omega (arith, ints, clamps)) (omega (arith, ints, clamps))
    (Encloses-max unit c.args.a.low c.args.a.high c.args.b.low c.args.b.high f g in_a in_b)
