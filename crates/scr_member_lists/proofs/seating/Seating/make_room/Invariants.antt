-- There is room for a row, and in each roll of the list so far.
use Rattle.scr_member_lists.proofs.SeatGrowth.{Roomy}
use Rattle.scr_member_lists.proofs.seating.Seating.make_room.Given as goal

abbrev pub invariant-loop-roll : goal.invariant-loop-roll
invariant-loop-roll g l = Roomy l.rolls l.roll-index l.fn.self l.self
