use Rattle.std.proofs.Common.{◌<◌, ◌+◌, length, refl, sym, subst}
use Rattle.std.proofs.lemmas.List.Elements.{All-from_recursion}
use Rattle.scr_figure_ids.specs.Families.{family_of, table_of}
use Rattle.scr_nodes.specs.Sources.{sources_of}
use Rattle.scr_ids.specs.Ranges.{first}
use Rattle.scr_reachability.specs.Linked.{sources_in}
use Rattle.scr_tree.specs.Figures.{reckoning_of}
use Rattle.scr_tree.specs.First.{link_ground}
use Rattle.scr_tree.proofs.Grounds.{family-few, for-links, have-within, linked-done, number-within, row-few, sources-known}
use Rattle.scr_tree.proofs.Known.{read-right}
use Rattle.scr_tree.proofs.making.put_linked.Goals as goal

pub number_at-number-requires-clause-row : goal.number_at-number-requires-clause-row
number_at-number-requires-clause-row g c =
    let ground = c.args.linked.ground in
    row-few (link_ground ground) (for-links ground c.requires.linked.ground) c.args.node.now c.args.row
    (first ground.places.now (table_of c.args.node.now) c.args.row + family_of c.args.node.now) c.requires.row refl c.requires.live

pub number_at-number-requires-clause-family : goal.number_at-number-requires-clause-family
number_at-number-requires-clause-family g c =
    let ground = c.args.linked.ground in
    family-few (link_ground ground) (for-links ground c.requires.linked.ground) c.args.node.now c.args.row
    (first ground.places.now (table_of c.args.node.now) c.args.row + family_of c.args.node.now) c.requires.row refl c.requires.live

pub read_linked-requires : goal.read_linked-requires
read_linked-requires g c =
    let ground = c.args.linked.ground in
    let figures = c.args.making.now.figures in
    let sources = sources_in c.args.linked.links.now.edges c.number_at-number.result in
    All-from_recursion (λ n. n < length figures) sources
    (have-within ground.inputs.factors.now ground.inputs.book.now.sheet figures sources
    (sources_of ground.inputs.book.now.sheet c.args.node.now)
    (sources-known ground c.requires.linked.ground c.args.node.now c.args.row c.number_at-number.result c.requires.row
    c.number_at-number.ensures c.requires.live c.args.linked.links.now c.requires.linked.links c.requires.linked_node c.requires.later
    figures c.requires.done))

pub reckoned-figure-requires-clause-below : goal.reckoned-figure-requires-clause-below
reckoned-figure-requires-clause-below g c =
    let ground = c.args.linked.ground in
    let figures = c.args.making.now.figures in
    let sources = sources_in c.args.linked.links.now.edges c.number_at-number.result in
    read-right (reckoning_of ground.inputs.factors.now ground.inputs.book.now.sheet) figures sources
    (sources_of ground.inputs.book.now.sheet c.args.node.now) c.read_linked.new.below
    (sources-known ground c.requires.linked.ground c.args.node.now c.args.row c.number_at-number.result c.requires.row
    c.number_at-number.ensures c.requires.live c.args.linked.links.now c.requires.linked.links c.requires.linked_node c.requires.later
    figures c.requires.done)
    c.in_ok-read_linked.ensures

pub write-requires : goal.write-requires
write-requires g c =
    let ground = c.args.linked.ground in
    subst (λ n. c.number_at-number.result < n) (sym c.requires.done.reckoned.count)
    (number-within (link_ground ground) (for-links ground c.requires.linked.ground) c.args.node.now c.args.row
    c.number_at-number.result c.requires.row c.number_at-number.ensures c.requires.live)

pub returns : goal.returns
returns g c =
    linked-done c.args.linked.ground c.requires.linked.ground c.args.node.now c.args.row c.number_at-number.result c.requires.row
    c.number_at-number.ensures c.requires.live c.args.making.now.figures c.write.new.figures c.reckoned-figure.result
    c.requires.linked_node c.requires.done c.reckoned-figure.ensures.figure c.write.ensures.count c.write.ensures.there c.write.ensures.others
