use Rattle.std.proofs.Common.{arith, lit<}
use Rattle.std.proofs.lemmas.Int.{ints}
use Rattle.scr_num.proofs.CentAmounts.{square-small, or_zero-is}
use Rattle.scr_bio.proofs.health_risks.nslt.Goals as goal

pub quad-requires-clause-small : goal.quad-requires-clause-small
quad-requires-clause-small c =
    let pr = or_zero-is c.args.pr.high (omega (arith, ints, c.args.pr.ordered)) in
    let lapse = or_zero-is c.cents.result.high (omega (arith, ints, c.cents.result.ordered)) in
    square-small 1 _ 6000000000000000000 (omega (arith, ints, pr, lapse)) (lit< tt)

pub returns-clause-encloses : goal.returns-clause-encloses
returns-clause-encloses c =
    λ f in_pr. c.quad.ensures.encloses 1000 (lit< tt) _
    (c.requires.pr_not_negative, in_pr, (c.cents.ensures.not_negative, c.cents.ensures.encloses, tt))
