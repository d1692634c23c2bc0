-- So many parts came back.
use Rattle.std.proofs.Common.{◌≡◌, ◌+◌}
use Rattle.scr_sum_slots.specs.Parts.{count_of, key_of, size_of}
use Rattle.scr_sum_slots.specs.Moves.{Freed, IsFront, KeepsRoom}
use Rattle.scr_sum_slots.proofs.parts.Parts.regain.Given as goal

abbrev pub invariant-loop : goal.invariant-loop
invariant-loop l = record {
  front : IsFront (key_of l.list l.level) l.fn.self l.self;
  count : count_of l.list l.level l.self ≡ count_of l.list l.level l.fn.self + l.counter;
  gone : Freed (key_of l.list l.level) l.counter l.self l.fn.self;
  room : KeepsRoom l.fn.self l.self;
  size : size_of l.self ≡ size_of l.fn.self;
}
