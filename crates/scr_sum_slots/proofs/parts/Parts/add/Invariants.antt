-- So many parts came.
use Rattle.std.proofs.Common.{◌≡◌, ◌+◌}
use Rattle.scr_sum_slots.specs.Parts.{count_of, key_of}
use Rattle.scr_sum_slots.specs.Moves.{IsFront}
use Rattle.scr_sum_slots.proofs.parts.Parts.add.Given as goal

abbrev pub invariant-loop : goal.invariant-loop
invariant-loop l = record {
  front : IsFront (key_of l.list l.level) l.fn.self l.self;
  count : count_of l.list l.level l.self ≡ count_of l.list l.level l.fn.self + l.counter;
}
