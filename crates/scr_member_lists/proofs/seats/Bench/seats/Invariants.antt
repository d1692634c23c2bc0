-- The seats so far are read.
use Rattle.scr_member_lists.specs.Seatings.{NOWHERE}
use Rattle.scr_member_lists.proofs.Benches.{AreRead}
use Rattle.scr_member_lists.proofs.seats.Bench.seats.Given as goal

abbrev pub invariant-loop-seat : goal.invariant-loop-seat
invariant-loop-seat g l = AreRead NOWHERE l.self.rolls l.seat l.seats.rolls × AreRead 0 l.self.places l.seat l.seats.places
