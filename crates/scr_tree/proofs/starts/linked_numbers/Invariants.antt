-- Those of the points so far.
use Rattle.std.proofs.Common.{nat_eq, take}
use Rattle.std.specs.List.{IsDistinct}
use Rattle.scr_figure_ids.specs.Numbers.{StandsAt}
use Rattle.scr_reachability.specs.LinkedDues.{AreStarts}
use Rattle.scr_tree.specs.Starts.{relinked}
use Rattle.scr_tree.proofs.starts.linked_numbers.Given as goal

abbrev pub invariant-loop-point : goal.invariant-loop-point
invariant-loop-point l = record {
  starts : AreStarts (StandsAt l.view.sheet.now l.view.places.now) (relinked l.edit (take l.point-index l.touched)) l.numbers.items;
  once : IsDistinct nat_eq l.numbers.items;
}
