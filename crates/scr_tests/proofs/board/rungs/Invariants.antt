-- The numbers so far.
use Rattle.std.proofs.Common.{◌≡◌, length}
use Rattle.scr_tests.specs.Ladders.{AreRungs}
use Rattle.scr_tests.proofs.board.rungs.Given as goal

abbrev pub invariant-loop-number : goal.invariant-loop-number
invariant-loop-number l = record {
  rungs : AreRungs 0 l.dues.items;
  long : length l.dues.items ≡ l.number;
}
