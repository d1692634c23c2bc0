-- In the seats so far the row stands where the list names it.
use Rattle.std.proofs.Common.{map}
use Rattle.scr_member_lists.specs.Members.{name_at}
use Rattle.scr_member_lists.specs.Seatings.{seat_at}
use Rattle.scr_member_lists.proofs.SeatLoops.{Done, list-change, list-goes}
use Rattle.scr_member_lists.proofs.seating.Seating.arrange.Given as goal

abbrev pub invariant-loop-seat : goal.invariant-loop-seat
invariant-loop-seat g l =
    Done (map g.R.Row.name_of l.rows) l.place (list-goes l.rolls (seat_at l.place l.fn.self.seats))
    (list-change l.rolls (seat_at l.place l.fn.self.seats) (name_at l.place (map g.R.Row.name_of l.rows))) l.seat l.fn.self l.self
