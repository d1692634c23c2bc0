use Rattle.std.proofs.Common.{arith}
use Rattle.scr_nodes.specs.declared.node.Node.TheVariants as nodes
use Rattle.scr_nodes.specs.declared.node.OfGroup.TheVariants as of_groups
use Rattle.scr_tree.specs.Marking.{assets}
use Rattle.scr_tree.proofs.AtNumbers.{group-named}
use Rattle.scr_tree.proofs.Dependants.{live-here}
use Rattle.scr_tree.proofs.MarkedMore.{marked-here, ok-then, unmarked}
use Rattle.scr_tree.proofs.OfRows.{assets-stand, group-stands, of-squares, square-left, square-marked}
use Rattle.scr_tree.proofs.graph.Graph.mark_of_square.Goals as goal

pub place-requires : goal.place-requires
place-requires c =
    let numbers = c.args.self.now.numbers in
    let low = c.requires.numbers.numbers.within assets 153 (assets-stand numbers.book.now numbers.places.now numbers.lists.now c.requires.numbers) in
    omega (arith, low, c.requires.room)

pub mark_member-requires-clause-stands : goal.mark_member-requires-clause-stands
mark_member-requires-clause-stands c =
    let numbers = c.args.self.now.numbers in
    let own = group-named numbers.book.now numbers.places.now numbers.lists.now c.requires.numbers c.args.number c.args.row 1 c.requires.at in (
      own.0,
      own.1,
      of-squares numbers.book.now numbers.places.now numbers.lists.now c.requires.numbers own.0 (live-here numbers.book.now numbers.places.now numbers.lists.now c.requires.numbers (nodes.Group own.0 of_groups.ConcentrationSquare) c.args.number
          (group-stands numbers.book.now numbers.places.now numbers.lists.now c.requires.numbers c.args.row own.0 own.1 of_groups.ConcentrationSquare c.args.number c.requires.at) c.requires.live),
    )

pub returns-in-Some-clause-marked : goal.returns-in-Some-clause-marked
returns-in-Some-clause-marked c =
    let numbers = c.args.self.now.numbers in
    let own = group-named numbers.book.now numbers.places.now numbers.lists.now c.requires.numbers c.args.number c.args.row 1 c.requires.at in
    square-left numbers.book.now numbers.places.now numbers.lists.now c.requires.numbers c.args.row own.0 own.1 c.args.number c.requires.at c.args.marks.now.list (marked-here c.args.marks.now.list 153 c.place.result c.place.ensures.there c.in-Some.is)

pub returns-in-None-clause-marked : goal.returns-in-None-clause-marked
returns-in-None-clause-marked c =
    let numbers = c.args.self.now.numbers in
    let own = group-named numbers.book.now numbers.places.now numbers.lists.now c.requires.numbers c.args.number c.args.row 1 c.requires.at in
    ok-then c.mark_member.result c.mark_member.ensures.marked (λ m.
    square-marked numbers.book.now numbers.places.now numbers.lists.now c.requires.numbers c.args.row own.0 own.1 c.args.number c.requires.at c.args.marks.now.list c.mark_member.new.marks.list (unmarked c.args.marks.now.list 153 c.place.result c.place.ensures.only c.in-None.is) (m own.0 own.1))
