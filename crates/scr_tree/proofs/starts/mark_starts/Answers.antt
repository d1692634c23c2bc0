use Rattle.std.proofs.Common.{◌≤◌, arith, length, refl, subst, ◌∙◌}
use Rattle.std.proofs.lemmas.List.{take_all}
use Rattle.scr_block_graph.specs.Books.{rolled_of}
use Rattle.scr_tree.specs.Points.{StandsIn, book_graph}
use Rattle.scr_tree.specs.Starts.{AreMarked}
use Rattle.scr_tree.proofs.StartRows.{marked-first, marked-next}
use Rattle.scr_tree.proofs.starts.mark_starts.Goals as goal

pub loop-point-init : goal.loop-point-init
loop-point-init c =
    let n = c.args.numbers in
    record {
      marked = marked-first (book_graph (rolled_of n.book.now)) (StandsIn n.book.now n.places.now n.lists.now) c.args.marks.now.list;
      size = refl;
    }

pub mark_start-requires-clause-room : goal.mark_start-requires-clause-room
mark_start-requires-clause-room c =
    let room = c.requires.room in
    let size = c.loop-point.invariant.size in
    omega (arith, room, size)

pub loop-point-preserved : goal.loop-point-preserved
loop-point-preserved c =
    let n = c.args.numbers in
    record {
      marked = marked-next (book_graph (rolled_of n.book.now)) (StandsIn n.book.now n.places.now n.lists.now) c.args.touched.now
          c.loop-point.point-index c.point-item.result c.loop-point-test.true c.point-item.is c.args.marks.now.list c.loop-point.marks.list
          c.loop-point.invariant.marked c.mark_start.new.marks.list c.in_ok-mark_start.ensures.marked;
      size = c.mark_start.ensures.size ∙ c.loop-point.invariant.size;
    }

pub returns-clause-marked : goal.returns-clause-marked
returns-clause-marked c =
    let n = c.args.numbers in
    let end : length c.args.touched.now ≤ c.loop-point.point-index = omega (arith, c.loop-point-test.false) in
    subst (λ list. AreMarked (book_graph (rolled_of n.book.now)) (StandsIn n.book.now n.places.now n.lists.now) list c.args.marks.now.list
    c.loop-point.marks.list)
    (take_all c.loop-point.point-index c.args.touched.now end) c.loop-point.invariant.marked
