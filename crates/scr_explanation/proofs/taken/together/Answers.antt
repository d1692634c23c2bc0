use Rattle.scr_explanation.proofs.Together.{high-more, high-size, low-more, low-size}
use Rattle.scr_explanation.proofs.taken.together.Goals as goal

pub loop-part-preserved : goal.loop-part-preserved
loop-part-preserved c =
    let parts = c.args.parts.now in
    let k = c.loop-part.part-index in
    let is = c.added-all.ensures in
    let all = c.loop-part.all in
    let next = c.added-all.result in
    let within = c.loop-part-test.true in
    record {
      low = low-more parts k _ within all next is c.loop-part.invariant.low;
      high = high-more parts k _ within all next is c.loop-part.invariant.high;
      small_low = low-size parts k _ within all next is c.requires.moderate c.loop-part.invariant.small_low;
      small_high = high-size parts k _ within all next is c.requires.moderate c.loop-part.invariant.small_high;
    }
