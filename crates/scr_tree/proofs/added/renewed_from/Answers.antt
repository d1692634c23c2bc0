use Rattle.std.proofs.Common.{map, refl, ◌+◌}
use Rattle.scr_block_graph.specs.Sums.{roll_of}
use Rattle.scr_tree.specs.Ready.{reckoning_on}
use Rattle.scr_tree.specs.Renewed.{IsSumOf}
use Rattle.scr_block_graph.specs.declared.point.Point.TheVariants as points
use Rattle.scr_tree.proofs.AddedUp.{at-members, numbers-once, numbers-within, renewed-if, renewed-right}
use Rattle.scr_tree.proofs.PointSources.{part-firsts}
use Rattle.scr_tree.proofs.added.renewed_from.Goals as goal

pub renewed-requires-clause-members : goal.renewed-requires-clause-members
renewed-requires-clause-members c =
    let b = c.args.basis in
    let block = c.args.block.now in
    let of = c.requires.basis.graph.numbers_of in
    numbers-within b c.requires.basis block c.requires.live c.requires.first c.member_family-family.result c.member_family-family.ensures c.part-own.result.now
    (part-firsts b.inputs.book.now b.places.now b.lists.now of c.requires.basis.valid block c.requires.live (roll_of block.sum) refl c.args.members.now c.part-own.result.now c.requires.members
    c.part-own.ensures)
    c.args.table.figures.now c.args.number c.requires.ready c.requires.at

pub renewed-requires-clause-once : goal.renewed-requires-clause-once
renewed-requires-clause-once c =
    let b = c.args.basis in
    let block = c.args.block.now in
    let of = c.requires.basis.graph.numbers_of in
    numbers-once b c.requires.basis block c.requires.live c.requires.first c.member_family-family.result c.member_family-family.ensures c.part-own.result.now
    (part-firsts b.inputs.book.now b.places.now b.lists.now of c.requires.basis.valid block c.requires.live (roll_of block.sum) refl c.args.members.now c.part-own.result.now c.requires.members
    c.part-own.ensures)

pub renewed-requires-clause-was : goal.renewed-requires-clause-was
renewed-requires-clause-was c =
    let b = c.args.basis in
    let block = c.args.block.now in
    let of = c.requires.basis.graph.numbers_of in
    let family = c.member_family-family.result in
    let own = c.part-own.result.now in
    c.requires.sums c.if-not-basis.false block c.args.number (map (λ n. n + family) own) c.requires.live tt c.requires.at
    (at-members b c.requires.basis block c.requires.live c.requires.first family c.member_family-family.ensures own
    (part-firsts b.inputs.book.now b.places.now b.lists.now of c.requires.basis.valid block c.requires.live (roll_of block.sum) refl c.args.members.now own c.requires.members
    c.part-own.ensures))

pub returns : goal.returns
returns c =
    let b = c.args.basis in
    let block = c.args.block.now in
    let of = c.requires.basis.graph.numbers_of in
    let family = c.member_family-family.result in
    let own = c.part-own.result.now in
    renewed-if c.renewed.result (IsSumOf c.args.table.figures.now (map (λ n. n + family) own)) ((reckoning_on b).worth (points.Block block)) c.renewed.ensures
    (renewed-right b c.requires.basis block c.requires.live c.requires.first family c.member_family-family.ensures own
    (part-firsts b.inputs.book.now b.places.now b.lists.now of c.requires.basis.valid block c.requires.live (roll_of block.sum) refl c.args.members.now own c.requires.members
    c.part-own.ensures)
    c.args.table.figures.now c.args.number c.requires.ready c.requires.at)
