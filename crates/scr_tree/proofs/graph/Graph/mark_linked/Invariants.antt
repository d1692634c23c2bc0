-- What is linked is marked but for what is left.
use Rattle.std.proofs.Common.{◌≡◌}
use Rattle.scr_tree.proofs.LinkedMarks.{AreLinkedMarks}
use Rattle.scr_tree.proofs.graph.Graph.mark_linked.Given as goal

abbrev pub invariant-loop-dependant : goal.invariant-loop-dependant
invariant-loop-dependant l = record {
  marked : AreLinkedMarks l.self.numbers.book.now l.self.numbers.places.now l.self.numbers.lists.now l.number l.dependant-iterator l.fn.marks.list l.marks.list;
  size : l.marks.size ≡ l.fn.marks.size;
}
