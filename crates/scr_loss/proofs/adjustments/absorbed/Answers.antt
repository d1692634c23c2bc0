use Rattle.std.proofs.Common.{arith}
use Rattle.std.proofs.lemmas.Int.{ints, clamps}
use Rattle.scr_loss.proofs.adjustments.absorbed.Goals as goal

pub returns-clause-not_negative : goal.returns-clause-not_negative
returns-clause-not_negative c =
    omega (arith, ints, clamps)

pub returns-clause-at_most : goal.returns-clause-at_most
returns-clause-at_most c =
    omega (arith, ints, clamps)
