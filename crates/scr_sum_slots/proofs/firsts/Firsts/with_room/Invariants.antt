-- No number yet, and room beside the lists so far.
use Rattle.std.proofs.Common.{◌≡◌, ◌<◌, ◌≤◌, ℕ, [], length}
use Rattle.scr_member_lists.specs.Seatings.{names_of}
use Rattle.scr_sum_slots.specs.Firsts.{firsts_in, room_beside}
use Rattle.scr_sum_slots.proofs.firsts.Firsts.with_room.Given as goal

abbrev pub invariant-loop-number : goal.invariant-loop-number
invariant-loop-number g l = record {
  none : (list : ℕ) → firsts_in list l.firsts ≡ [];
  room : (number : ℕ) → number < l.number → length (names_of number l.seating.rolls) ≤ room_beside number l.firsts;
}
