use Rattle.std.proofs.Common.{arith}
use Rattle.std.proofs.lemmas.Int.{ints, clamps}
use Rattle.scr_num.proofs.Enclosing.{Encloses-wider}
use Rattle.scr_num.proofs.hull.Goals as goal

pub returns-clause-encloses_left : goal.returns-clause-encloses_left
returns-clause-encloses_left c = λ unit f h. Encloses-wider unit c.args.a.low _ c.args.a.high _ f
    (omega (arith, ints, clamps)) (omega (arith, ints, clamps)) h

pub returns-clause-encloses_right : goal.returns-clause-encloses_right
returns-clause-encloses_right c = λ unit f h. Encloses-wider unit c.args.b.low _ c.args.b.high _ f
    (omega (arith, ints, clamps)) (omega (arith, ints, clamps)) h
