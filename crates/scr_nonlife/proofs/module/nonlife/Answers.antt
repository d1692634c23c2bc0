use Rattle.std.proofs.Common.{arith, lit<}
use Rattle.std.proofs.lemmas.Int.{ints}
use Rattle.scr_num.proofs.CentAmounts.{or_zero-is, square-small}
use Rattle.scr_nonlife.proofs.module.nonlife.Goals as goal

pub quad-requires-clause-small : goal.quad-requires-clause-small
quad-requires-clause-small c =
    let pr = or_zero-is c.args.pr.high (omega (arith, ints, c.args.pr.ordered)) in
    let cat = or_zero-is c.args.cat.high (omega (arith, ints, c.args.cat.ordered)) in
    let lapse = or_zero-is c.cents.result.high (omega (arith, ints, c.cents.result.ordered)) in
    square-small 4 _ 6020000000000000000 (omega (arith, ints, pr, cat, lapse)) (lit< tt)

pub returns-clause-encloses : goal.returns-clause-encloses
returns-clause-encloses c =
    λ f g in_pr in_cat. c.quad.ensures.encloses 1000 (lit< tt) _ (
      c.requires.pr_not_negative,
      in_pr,
      (c.requires.cat_not_negative, in_cat, (c.cents.ensures.not_negative, c.cents.ensures.encloses, tt)),
    )
