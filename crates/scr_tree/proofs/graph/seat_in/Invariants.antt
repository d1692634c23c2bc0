-- No seat so far is in the list.
use Rattle.std.proofs.Common.{◌≢◌, ◌<◌, ℕ}
use Rattle.scr_member_lists.specs.Seatings.{roll_in}
use Rattle.scr_tree.proofs.graph.seat_in.Given as goal

abbrev pub invariant-loop-seat : goal.invariant-loop-seat
invariant-loop-seat l = (seat : ℕ) → seat < l.seat → roll_in seat l.seats ≢ l.number
