-- The squares so far come first, and are still.
use Rattle.std.proofs.Common.{◌≡◌, ℕ, ◌+◌, ◌<◌, Some, slice_get}
use Rattle.std.specs.Prelude.{slice_index}
use Rattle.scr_partial_sums.specs.Tables.{IsAmountBeforeNothing}
use Rattle.scr_tree.proofs.reckoning.count_still.Given as goal

abbrev pub invariant-loop-row : goal.invariant-loop-row
invariant-loop-row l = record {
  come : (row : ℕ) → row < l.row → slice_get l.numbers row ≡ Some (slice_index l.firsts row + 1);
  each : (row : ℕ) → row < l.row → IsAmountBeforeNothing l.free l.figures (slice_index l.firsts row);
}
