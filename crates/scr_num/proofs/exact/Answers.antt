use Rattle.std.proofs.Common.{arith}
use Rattle.std.proofs.lemmas.Int.{ints}
use Rattle.scr_num.proofs.Enclosing.{Encloses-same, Encloses-exact}
use Rattle.scr_num.proofs.exact.Goals as goal

pub returns-clause-encloses : goal.returns-clause-encloses
returns-clause-encloses c =
    λ unit p is. Encloses-same unit _ _ _ _ _ (omega (arith, ints)) (omega (arith, ints))
    (Encloses-exact unit c.args.v p is)
