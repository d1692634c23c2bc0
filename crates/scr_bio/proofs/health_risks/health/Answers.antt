use Rattle.std.proofs.Common.{arith, lit<}
use Rattle.std.proofs.lemmas.Int.{ints}
use Rattle.scr_num.proofs.CentAmounts.{square-small, or_zero-is}
use Rattle.scr_bio.proofs.health_risks.health.Goals as goal

pub quad-requires-clause-small : goal.quad-requires-clause-small
quad-requires-clause-small c =
    let slt = or_zero-is c.args.slt.high (omega (arith, ints, c.args.slt.ordered)) in
    let nslt = or_zero-is c.args.nslt.high (omega (arith, ints, c.args.nslt.ordered)) in
    let cat = or_zero-is c.args.cat.high (omega (arith, ints, c.args.cat.ordered)) in
    square-small 4 _ 6000000000000000000 (omega (arith, ints, slt, nslt, cat)) (lit< tt)

pub returns-clause-encloses : goal.returns-clause-encloses
returns-clause-encloses c =
    λ f g h in_slt in_nslt in_cat. c.quad.ensures.encloses 1000 (lit< tt) _
    (c.requires.slt_not_negative, in_slt, (c.requires.nslt_not_negative, in_nslt, (c.requires.cat_not_negative, in_cat, tt)))
