-- What was there stands where it stood, and there are no more than there were or are asked for.
use Rattle.std.proofs.Common.{◌≡◌, ◌-◌, ◌<◌, ◌≤◌, ℕ, length, slice_get}
use Rattle.scr_tree.proofs.edits.make_room.Given as goal

abbrev pub invariant-loop-figures : goal.invariant-loop-figures
invariant-loop-figures l = record {
  long : length l.fn.figures ≤ length l.figures;
  most : (bound : ℕ) → length l.fn.figures ≤ bound → l.size ≤ bound → length l.figures ≤ bound;
  kept : (number : ℕ) → number < length l.fn.figures → slice_get l.figures number ≡ slice_get l.fn.figures number;
}

abbrev pub decreases-loop-figures : goal.decreases-loop-figures
decreases-loop-figures l = l.size - length l.figures
