-- There is room beside the lists of the seats so far.
use Rattle.scr_sum_slots.proofs.Followed.{HasRoom}
use Rattle.scr_sum_slots.proofs.firsts.Firsts.make_room.Given as goal

abbrev pub invariant-loop-seat : goal.invariant-loop-seat
invariant-loop-seat l = HasRoom l.seats l.seat l.fn.self l.self
