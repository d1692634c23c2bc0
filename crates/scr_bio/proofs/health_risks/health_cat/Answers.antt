use Rattle.std.proofs.Common.{arith}
use Rattle.std.proofs.lemmas.Int.{ints}
use Rattle.scr_num.proofs.CentAmounts.{or_zero-is}
use Rattle.scr_bio.proofs.health_risks.health_cat.Goals as goal

pub health_catastrophe-requires-clause-highs : goal.health_catastrophe-requires-clause-highs
health_catastrophe-requires-clause-highs c =
    let mass = or_zero-is c.cents.result.high (omega (arith, ints, c.cents.result.ordered)) in
    let accident = or_zero-is c.cents-2.result.high (omega (arith, ints, c.cents-2.result.ordered)) in
    let pandemic = or_zero-is c.cents-3.result.high (omega (arith, ints, c.cents-3.result.ordered)) in
    omega (arith, ints, mass, accident, pandemic)

pub returns-clause-encloses : goal.returns-clause-encloses
returns-clause-encloses c =
    c.health_catastrophe.ensures.encloses _ (
      c.cents.ensures.not_negative,
      c.cents.ensures.encloses,
      (c.cents-2.ensures.not_negative, c.cents-2.ensures.encloses, (c.cents-3.ensures.not_negative, c.cents-3.ensures.encloses, tt)),
    )
