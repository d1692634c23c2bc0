use Rattle.std.proofs.Common.{rules, ◌≡◌, ◌+◌, subst, arith}
use Rattle.scr_ids.specs.Ranges.{IsAt}
use Rattle.scr_ids.specs.declared.table.Table.TheVariants as ranged
use Rattle.scr_nodes.specs.declared.node.Node.TheVariants as nodes
use Rattle.scr_nodes.specs.declared.node.OfGroup.TheVariants as of_groups
use Rattle.scr_block_graph.specs.declared.point.Point.TheVariants as points
use Rattle.scr_tree.proofs.AtNumbers.{group-named}
use Rattle.scr_tree.proofs.Dependants.{live-here}
use Rattle.scr_tree.proofs.MarkedMore.{marked-number, ok-then}
use Rattle.scr_tree.proofs.OfRows.{group-stands, loss-marked, square-next, total-marked}
use Rattle.scr_tree.proofs.graph.Graph.mark_of_group.Goals as goal

pub insert-requires : goal.insert-requires
insert-requires c =
    let numbers = c.args.self.now.numbers in
    let own = group-named numbers.book.now numbers.places.now numbers.lists.now c.requires.numbers c.args.number c.args.place.now.row c.args.place.now.family c.requires.at in
    let at : IsAt numbers.places.now ranged.Group c.args.place.now.row 0 c.args.number = subst (λ i. IsAt numbers.places.now ranged.Group c.args.place.now.row i c.args.number) c.in-0.is c.requires.at in
    let low = c.requires.numbers.numbers.within (points.Figure (nodes.Group own.0 of_groups.ConcentrationSquare)) (c.args.number + 1)
    (square-next numbers.book.now numbers.places.now numbers.lists.now c.requires.numbers c.args.place.now.row own.0 own.1 c.args.number at) in
    omega (arith, low, c.requires.room)

pub returns-in-0-clause-marked : goal.returns-in-0-clause-marked
returns-in-0-clause-marked c =
    let numbers = c.args.self.now.numbers in
    let own = group-named numbers.book.now numbers.places.now numbers.lists.now c.requires.numbers c.args.number c.args.place.now.row c.args.place.now.family c.requires.at in
    let at : IsAt numbers.places.now ranged.Group c.args.place.now.row 0 c.args.number = subst (λ i. IsAt numbers.places.now ranged.Group c.args.place.now.row i c.args.number) c.in-0.is c.requires.at in
    ok-then c.insert.result c.insert.ensures.ok (λ is.
    total-marked numbers.book.now numbers.places.now numbers.lists.now c.requires.numbers c.args.place.now.row own.0 own.1 c.args.number at
    (live-here numbers.book.now numbers.places.now numbers.lists.now c.requires.numbers (nodes.Group own.0 of_groups.Total) c.args.number (group-stands numbers.book.now numbers.places.now numbers.lists.now c.requires.numbers c.args.place.now.row own.0 own.1 of_groups.Total c.args.number at) c.requires.live)
    c.args.marks.now.list c.insert.new.self.list (marked-number c.args.marks.now.list c.insert.new.self.list (c.args.number + 1) is))

pub returns-in_default-clause-marked : goal.returns-in_default-clause-marked
returns-in_default-clause-marked c =
    let numbers = c.args.self.now.numbers in
    let own = group-named numbers.book.now numbers.places.now numbers.lists.now c.requires.numbers c.args.number c.args.place.now.row c.args.place.now.family c.requires.at in
    let two : c.args.place.now.family ≡ 2 = search rules in
    loss-marked numbers.book.now numbers.places.now numbers.lists.now c.requires.numbers c.args.place.now.row own.0 own.1 c.args.number (subst (λ i. IsAt numbers.places.now ranged.Group c.args.place.now.row i c.args.number) two c.requires.at) c.args.marks.now.list
