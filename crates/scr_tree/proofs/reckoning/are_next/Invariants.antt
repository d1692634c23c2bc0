-- The squares so far come first, or one does not.
use Rattle.std.proofs.Common.{◌≡◌, ℕ, ◌+◌, ◌<◌, true, false, Some, slice_get}
use Rattle.std.specs.Prelude.{slice_index}
use Rattle.scr_tree.proofs.reckoning.are_next.Given as goal

abbrev pub invariant-loop-row : goal.invariant-loop-row
invariant-loop-row l = record {
  all : l.are ≡ true → (row : ℕ) → row < l.row → slice_get l.numbers row ≡ Some (slice_index l.firsts row + 1);
  one : l.are ≡ false → (row : ℕ) × (row < l.row) × (slice_get l.numbers row ≡ Some (slice_index l.firsts row + 1) → ⊥);
}
