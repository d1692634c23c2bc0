use Rattle.std.proofs.Common.{arith}
use Rattle.std.proofs.lemmas.Int.{ints}
use Rattle.scr_num.specs.Figure.{Sum}
use Rattle.scr_loss.proofs.adjustments.scr.Goals as goal

pub add-requires-3-clause-a_high : goal.add-requires-3-clause-a_high
add-requires-3-clause-a_high c =
    omega (arith, ints)

pub returns-clause-encloses : goal.returns-clause-encloses
returns-clause-encloses c =
    λ f g h i in_bscr in_tp in_dt in_op. c.add-3.ensures.encloses 1000 (Sum (Sum f g) h) i
    (c.add-2.ensures.encloses 1000 (Sum f g) h (c.add.ensures.encloses 1000 f g in_bscr in_tp) in_dt) in_op
