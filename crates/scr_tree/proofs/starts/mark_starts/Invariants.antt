-- Those of the points so far.
use Rattle.std.proofs.Common.{◌≡◌, take}
use Rattle.scr_block_graph.specs.Books.{rolled_of}
use Rattle.scr_tree.specs.Points.{StandsIn, book_graph}
use Rattle.scr_tree.specs.Starts.{AreMarked}
use Rattle.scr_tree.proofs.starts.mark_starts.Given as goal

abbrev pub invariant-loop-point : goal.invariant-loop-point
invariant-loop-point l = record {
  marked : AreMarked (book_graph (rolled_of l.numbers.book.now)) (StandsIn l.numbers.book.now l.numbers.places.now l.numbers.lists.now)
      (take l.point-index l.touched) l.fn.marks.list l.marks.list;
  size : l.marks.size ≡ l.fn.marks.size;
}
