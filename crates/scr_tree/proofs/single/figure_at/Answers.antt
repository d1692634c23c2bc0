use Rattle.std.proofs.Common.{refl, sym, subst, arith, ◌∙◌}
use Rattle.scr_tables.proofs.PastRows.{missing}
use Rattle.scr_figure_ids.specs.Numbers.{IsNumbered, StandsAt}
use Rattle.scr_sheet.specs.declared.sheet.BalanceSheet.{BalanceSheet}
use Rattle.scr_nodes.specs.declared.node.Node.TheVariants as nodes
use Rattle.scr_block_graph.specs.Sums.{first_sum}
use Rattle.scr_tree.proofs.Here.{block-there}
use Rattle.scr_tree.proofs.WholeNumbers.{whole-there}
use Rattle.scr_tree.proofs.single.figure_at.Goals as goal

pub node_at-requires : goal.node_at-requires
node_at-requires g c =
    subst (λ (sheet : BalanceSheet). IsNumbered sheet c.args.basis.places.now) (sym c.sheet.ensures.sheet) c.requires.basis.graph.numbers_of.numbered

pub figure_of_node-requires-clause-at : goal.figure_of_node-requires-clause-at
figure_of_node-requires-clause-at g c =
    subst (λ (sheet : BalanceSheet). StandsAt sheet c.args.basis.places.now c.in-Some.node c.args.number) c.sheet.ensures.sheet c.in-Some.ensures.there

pub figure_of_block-requires-clause-block : goal.figure_of_block-requires-clause-block
figure_of_block-requires-clause-block g c =
    let b = c.args.basis in
    let ready = c.requires.ready in
    block-there b c.args.number ready.node ready.at (λ node at. c.in-None.ensures.absent refl node
    (subst (λ (sheet : BalanceSheet). StandsAt sheet b.places.now node c.args.number) (sym c.sheet.ensures.sheet) at))

pub figure_of_whole-requires-clause-at : goal.figure_of_whole-requires-clause-at
figure_of_whole-requires-clause-at g c =
    let b = c.args.basis in
    let stride = c.stride.ensures in
    whole-there b.inputs.book.now.sheet b.places.now c.requires.basis.graph.numbers_of.numbered c.whole_at-what.result c.args.number
    c.whole_at-what.ensures (omega (arith, stride, c.if-number-stride.true))

pub figure_of_whole-requires-clause-plain : goal.figure_of_whole-requires-clause-plain
figure_of_whole-requires-clause-plain g c =
    missing (first_sum (nodes.Whole c.whole_at-what.result)) (sym c.is_summed.ensures ∙ c.if-not-is_summed.true)
