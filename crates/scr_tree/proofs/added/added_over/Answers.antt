use Rattle.std.proofs.Common.{refl}
use Rattle.scr_block_graph.specs.Sums.{roll_of}
use Rattle.scr_tree.proofs.AddedUp.{added-right, added-together, added-within}
use Rattle.scr_tree.proofs.PointSources.{part-firsts}
use Rattle.scr_tree.proofs.added.added_over.Goals as goal

pub add_figures-requires-clause-within : goal.add_figures-requires-clause-within
add_figures-requires-clause-within c =
    let b = c.args.basis in
    let block = c.args.block.now in
    let of = c.requires.basis.graph.numbers_of in
    added-within b c.requires.basis block c.requires.live c.requires.first c.member_family-family.result c.member_family-family.ensures c.part-own.result.now
    (part-firsts b.inputs.book.now b.places.now b.lists.now of c.requires.basis.valid block c.requires.live (roll_of block.sum) refl c.args.members.now c.part-own.result.now c.requires.members
    c.part-own.ensures)
    c.args.figures.now c.args.number c.requires.ready c.requires.at

pub add_figures-requires-clause-together : goal.add_figures-requires-clause-together
add_figures-requires-clause-together c =
    let b = c.args.basis in
    let block = c.args.block.now in
    let of = c.requires.basis.graph.numbers_of in
    added-together b c.requires.basis block c.requires.live c.requires.first c.member_family-family.result c.member_family-family.ensures c.part-own.result.now
    (part-firsts b.inputs.book.now b.places.now b.lists.now of c.requires.basis.valid block c.requires.live (roll_of block.sum) refl c.args.members.now c.part-own.result.now c.requires.members
    c.part-own.ensures)
    c.args.figures.now c.args.number c.requires.ready c.requires.at c.known.ensures

pub returns : goal.returns
returns c =
    let b = c.args.basis in
    let block = c.args.block.now in
    let of = c.requires.basis.graph.numbers_of in
    added-right b c.requires.basis block c.requires.live c.requires.first c.member_family-family.result c.member_family-family.ensures c.part-own.result.now
    (part-firsts b.inputs.book.now b.places.now b.lists.now of c.requires.basis.valid block c.requires.live (roll_of block.sum) refl c.args.members.now c.part-own.result.now c.requires.members
    c.part-own.ensures)
    c.args.figures.now c.args.number c.requires.ready c.requires.at c.add_figures.result.span c.add_figures.result.close c.add_figures.ensures.span c.add_figures.ensures.close
