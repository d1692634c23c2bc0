-- The number stands wherever the seats so far say.
use Rattle.scr_sum_slots.specs.Filling.{IsEntered}
use Rattle.scr_sum_slots.proofs.firsts.Firsts.enter.Given as goal

abbrev pub invariant-loop-seat : goal.invariant-loop-seat
invariant-loop-seat g l = IsEntered l.seats l.first l.seat l.fn.self l.self
