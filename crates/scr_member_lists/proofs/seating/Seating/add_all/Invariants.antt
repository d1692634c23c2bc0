-- There is a roll for each seat so far.
use Rattle.scr_member_lists.proofs.SeatGrowth.{Added}
use Rattle.scr_member_lists.proofs.seating.Seating.add_all.Given as goal

abbrev pub invariant-loop-seat : goal.invariant-loop-seat
invariant-loop-seat g l = Added l.seats l.seat-index l.fn.self l.self
