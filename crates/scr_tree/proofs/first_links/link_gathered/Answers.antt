use Rattle.std.proofs.Common.{◌+◌, refl, subst}
use Rattle.scr_figure_ids.specs.Families.{family_of, table_of}
use Rattle.scr_ids.specs.Ranges.{first}
use Rattle.scr_tree.specs.First.{AreLinkedTo, IsLinkedNext}
use Rattle.scr_tree.specs.Turns.{next, turn_of}
use Rattle.scr_tree.proofs.FirstRows.{on-ok}
use Rattle.scr_tree.proofs.Grounds.{family-few, row-few}
use Rattle.scr_tree.proofs.Linking.{linked-gathered}
use Rattle.scr_tree.proofs.first_links.link_gathered.Goals as goal

pub number_at-number-requires-clause-row : goal.number_at-number-requires-clause-row
number_at-number-requires-clause-row c =
    row-few c.args.ground c.requires.ground c.args.node.now c.args.row
    (first c.args.ground.places.now (table_of c.args.node.now) c.args.row + family_of c.args.node.now) c.requires.row refl c.requires.live

pub number_at-number-requires-clause-family : goal.number_at-number-requires-clause-family
number_at-number-requires-clause-family c =
    family-few c.args.ground c.requires.ground c.args.node.now c.args.row
    (first c.args.ground.places.now (table_of c.args.node.now) c.args.row + family_of c.args.node.now) c.requires.row refl c.requires.live

pub returns : goal.returns
returns c =
    on-ok (IsLinkedNext c.number_at-number.result c.as_slice.result.now c.args.links.now c.link_next.new.links)
    (AreLinkedTo c.args.ground c.link_next.new.links (next (turn_of c.args.node.now c.args.row))) c.link_next.result
    (λ joined. linked-gathered c.args.ground c.requires.ground c.args.links.now c.link_next.new.links c.args.node.now c.args.row
    c.number_at-number.result c.gather_linked.new.sources.items c.requires.row c.number_at-number.ensures c.requires.live c.requires.linked_node
    c.in_ok-gather_linked.ensures c.requires.linked
    (subst (λ ns. IsLinkedNext c.number_at-number.result ns c.args.links.now c.link_next.new.links) c.as_slice.ensures.value joined))
    c.link_next.ensures
