use Rattle.std.proofs.Common.{arith, lit<}
use Rattle.std.proofs.lemmas.Int.{ints}
use Rattle.scr_num.proofs.CentAmounts.{or_zero-is, square-small}
use Rattle.scr_nonlife.proofs.catastrophes.cat_all.Goals as goal

pub quad-requires-clause-small : goal.quad-requires-clause-small
quad-requires-clause-small c =
    let nat = or_zero-is c.args.nat.high (omega (arith, ints, c.args.nat.ordered)) in
    let property = or_zero-is c.args.property.high (omega (arith, ints, c.args.property.ordered)) in
    let natural = or_zero-is c.add-natural.result.high (omega (arith, ints, c.add-natural.result.ordered)) in
    square-small 1 _ 6000000000000000000 (omega (arith, ints, nat, property, natural)) (lit< tt)

pub returns-clause-encloses : goal.returns-clause-encloses
returns-clause-encloses c =
    λ f g h k in_nat in_manmade in_property in_other. c.quad.ensures.encloses 1000 (lit< tt) _ (
      omega (arith, ints),
      c.add-natural.ensures.encloses 1000 f h in_nat in_property,
      (c.requires.lows.1.0, in_manmade, (c.requires.lows.1.1.1.0, in_other, tt)),
    )
