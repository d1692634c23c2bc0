-- The row has moved in the seats so far.
use Rattle.std.proofs.Common.{◌≡◌, ℕ}
use Rattle.scr_member_lists.specs.Seatings.{NOWHERE}
use Rattle.scr_sum_slots.specs.Firsts.{firsts_in}
use Rattle.scr_sum_slots.specs.Following.{AreSeatsOf, KeepsRoomBeside}
use Rattle.scr_sum_slots.proofs.Followed.{FollowedTo}
use Rattle.scr_sum_slots.proofs.firsts.Firsts.follow.Given as goal

abbrev pub invariant-loop-seat : goal.invariant-loop-seat
invariant-loop-seat l = record {
  followed : (seat_of : ℕ → ℕ) → AreSeatsOf seat_of l.was → AreSeatsOf seat_of l.now → FollowedTo seat_of l.was l.now l.first l.seat l.fn.self l.self;
  nowhere : firsts_in NOWHERE l.self ≡ firsts_in NOWHERE l.fn.self;
  room : KeepsRoomBeside l.fn.self l.self;
}
