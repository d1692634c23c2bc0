use Rattle.std.proofs.Common.{refl, ◌∙◌, arith}
use Rattle.scr_tree.proofs.LinkedMarks.{marks-begin, marks-end, marks-more, marks-within}
use Rattle.scr_tree.proofs.MarkedMore.{marked-number}
use Rattle.scr_tree.proofs.graph.Graph.mark_linked.Goals as goal

pub loop-dependant-init : goal.loop-dependant-init
loop-dependant-init c =
    let numbers = c.args.self.now.numbers in
    record {
      marked = marks-begin numbers.book.now numbers.places.now numbers.lists.now c.args.self.now.links.now c.requires.graph c.args.number
          c.into_iter-dependant-iterator.result (c.into_iter-dependant-iterator.ensures.into_iter_gives ∙ c.dependants-dependant-items.ensures)
          c.args.marks.now.list;
      size = refl;
    }

pub insert-requires : goal.insert-requires
insert-requires c =
    let numbers = c.args.self.now.numbers in
    let low = marks-within numbers.book.now numbers.places.now numbers.lists.now c.args.self.now.links.now c.requires.graph c.args.number
    c.in-Some.dependant c.in-Some.field-0-1 c.loop-dependant.dependant-iterator c.next.new.self c.in-Some.ensures.steps c.args.marks.now.list
    c.loop-dependant.marks.list c.loop-dependant.invariant.marked in
    omega (arith, low, c.requires.room, c.loop-dependant.invariant.size)

pub loop-dependant-preserved : goal.loop-dependant-preserved
loop-dependant-preserved c =
    let numbers = c.args.self.now.numbers in
    record {
      marked = marks-more numbers.book.now numbers.places.now numbers.lists.now c.args.self.now.links.now c.requires.graph c.args.number
          c.in-Some.dependant c.in-Some.field-0-1 c.loop-dependant.dependant-iterator c.next.new.self c.in-Some.ensures.steps c.args.marks.now.list
          c.loop-dependant.marks.list c.insert.new.self.list c.loop-dependant.invariant.marked
          (marked-number c.loop-dependant.marks.list c.insert.new.self.list c.in-Some.dependant c.in_ok-insert.ensures.ok);
      size = c.insert.ensures.size ∙ c.loop-dependant.invariant.size;
    }

pub returns-clause-marked : goal.returns-clause-marked
returns-clause-marked c =
    let numbers = c.args.self.now.numbers in
    marks-end numbers.book.now numbers.places.now numbers.lists.now c.args.self.now.links.now c.requires.graph c.args.number
    c.loop-dependant.dependant-iterator c.in-None.ensures.steps.0 c.args.marks.now.list c.loop-dependant.marks.list c.loop-dependant.invariant.marked
