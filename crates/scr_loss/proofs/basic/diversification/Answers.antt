use Rattle.std.proofs.Common.{◌^◌, arith, lit<}
use Rattle.scr_num.specs.Sums.{parts_of, sum_figure}
use Rattle.scr_num.proofs.SumLemmas.{parts-enclosed}
use Rattle.scr_agg.specs.Correlated.{all_ends}
use Rattle.scr_loss.specs.Bscr.{modules_figure}
use Rattle.scr_loss.proofs.BscrBounds.{lows_of, together}
use Rattle.scr_loss.proofs.basic.diversification.Goals as goal

pub total-requires : goal.total-requires
total-requires c = record { together = together (2 ^ 124) c.args.parts.now c.requires.lows (omega (arith, c.requires.highs)) }

pub sub-requires-clause-a_low : goal.sub-requires-clause-a_low
sub-requires-clause-a_low c =
    let size = c.total.ensures.size 6000000000000000000 (together 6000000000000000000 c.args.parts.now c.requires.lows c.requires.highs) in
    omega (arith, size.low)

pub sub-requires-clause-a_high : goal.sub-requires-clause-a_high
sub-requires-clause-a_high c =
    let size = c.total.ensures.size 6000000000000000000 (together 6000000000000000000 c.args.parts.now c.requires.lows c.requires.highs) in
    omega (arith, size.high)

pub returns-clause-encloses : goal.returns-clause-encloses
returns-clause-encloses c =
    λ figures h. c.sub.ensures.encloses 1000 (sum_figure figures) (modules_figure figures) (c.total.ensures.encloses 1000 (lit< tt) figures h)
    (c.quad.ensures.encloses 1000 (lit< tt) (parts_of figures)
    (parts-enclosed 1000 (all_ends c.args.parts.now) figures (lows_of c.args.parts.now c.requires.lows) h))
