-- So many parts went.
use Rattle.std.proofs.Common.{◌≡◌, ◌+◌}
use Rattle.scr_sum_slots.specs.Parts.{count_of, key_of, size_of}
use Rattle.scr_sum_slots.specs.Moves.{Freed, IsFront, KeepsRoom}
use Rattle.scr_sum_slots.proofs.parts.Parts.cut.Given as goal

abbrev pub invariant-loop : goal.invariant-loop
invariant-loop l = record {
  front : IsFront (key_of l.list l.level) l.self l.fn.self;
  count : count_of l.list l.level l.self + l.counter ≡ count_of l.list l.level l.fn.self;
  gone : Freed (key_of l.list l.level) l.counter l.fn.self l.self;
  room : KeepsRoom l.fn.self l.self;
  size : size_of l.self ≡ size_of l.fn.self;
}
