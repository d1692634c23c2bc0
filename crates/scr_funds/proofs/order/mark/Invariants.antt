-- What is left of the numbers is still to be marked.
use Rattle.std.proofs.Common.{◌≡◌, drop, length}
use Rattle.scr_funds.specs.Marks.{with_marks}
use Rattle.scr_funds.proofs.order.mark.Given as goal

abbrev pub invariant-loop-number : goal.invariant-loop-number
invariant-loop-number l = record {
  left : with_marks (drop l.number-index l.numbers) l.marks.items ≡ with_marks l.numbers l.fn.marks.items;
  long : length l.marks.items ≡ length l.fn.marks.items;
}
