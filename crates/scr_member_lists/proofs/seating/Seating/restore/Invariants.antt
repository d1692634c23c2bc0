-- In the seats so far the row stands where those that were kept say.
use Rattle.std.proofs.Common.{map}
use Rattle.scr_member_lists.specs.Members.{name_at}
use Rattle.scr_member_lists.proofs.SeatLoops.{Done, back-change, back-goes}
use Rattle.scr_member_lists.proofs.seating.Seating.restore.Given as goal

abbrev pub invariant-loop-seat : goal.invariant-loop-seat
invariant-loop-seat g l =
    Done (map g.R.Row.name_of l.rows) l.place (back-goes l.before)
    (back-change l.before (name_at l.place (map g.R.Row.name_of l.rows))) l.seat l.fn.self l.self
