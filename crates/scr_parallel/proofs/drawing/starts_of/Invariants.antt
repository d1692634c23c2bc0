use Rattle.std.proofs.Common.{◌≡◌, length}
use Rattle.std.specs.List.{range_with_len}
use Rattle.scr_parallel.proofs.drawing.starts_of.Given as goal

-- those so far
abbrev pub invariant-loop-n : goal.invariant-loop-n
invariant-loop-n l = record {
  starts : l.starts.items ≡ range_with_len 0 l.n;
  count : length l.starts.items ≡ l.n;
}
