-- So many lists came.
use Rattle.std.proofs.Common.{◌≡◌, ◌+◌, length}
use Rattle.scr_sum_slots.specs.Moves.{Roomier}
use Rattle.scr_sum_slots.proofs.numbers.reach.Given as goal

abbrev pub invariant-loop : goal.invariant-loop
invariant-loop l = record {
  roomier : Roomier l.fn.lists.items l.lists.items;
  count : length l.lists.items ≡ length l.fn.lists.items + l.counter;
}
