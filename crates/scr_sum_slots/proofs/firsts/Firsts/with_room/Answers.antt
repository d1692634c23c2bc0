use Rattle.std.proofs.Common.{ap, length, ◌∙◌, arith}
use Rattle.scr_sum_slots.proofs.Filled.{room-more}
use Rattle.scr_sum_slots.proofs.firsts.Firsts.with_room.Goals as goal

pub loop-number-init : goal.loop-number-init
loop-number-init g c = record {
  none = c.in_ok-firsts.ensures;
  room = λ number low. absurd (omega (arith, low));
}

pub loop-number-preserved : goal.loop-number-preserved
loop-number-preserved g c = record {
  none = λ list. c.reserve_many.ensures.still list ∙ c.loop-number.invariant.none list;
  room = room-more c.args.seating.now.rolls c.loop-number.number (length c.roll.result.now) c.loop-number.firsts c.reserve_many.new.self
      c.loop-number.invariant.room c.reserve_many.ensures.room (ap length c.roll.ensures.names) c.in_ok-reserve_many.ensures.ok;
}

pub returns-clause-room : goal.returns-clause-room
returns-clause-room g c = λ number low.
    c.loop-number.invariant.room number (omega (arith, low, c.loop-number-test.false, c.len-count.ensures))
