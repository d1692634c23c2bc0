-- What is reached so far, with the dependants of what stands before the place.
use Rattle.std.proofs.Common.{◌≡◌, ◌-◌, ◌^◌}
use Rattle.scr_tree.proofs.Climbed.{IsClimbed}
use Rattle.scr_tree.proofs.edits.climb.Given as goal

abbrev pub invariant-loop-place : goal.invariant-loop-place
invariant-loop-place l = record {
  climbed : IsClimbed l.graph.numbers.book.now l.graph.numbers.places.now l.graph.numbers.lists.now l.touched l.marks.list l.place;
  size : l.marks.size ≡ l.fn.marks.size;
}

abbrev pub decreases-loop-place : goal.decreases-loop-place
decreases-loop-place l = 2 ^ 64 - l.place
