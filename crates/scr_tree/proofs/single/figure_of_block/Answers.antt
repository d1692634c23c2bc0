use Rattle.std.proofs.Common.{◌≡◌, true, refl, ap, subst, ◌∙◌}
use Rattle.scr_block_graph.specs.Books.{rolled_of}
use Rattle.scr_block_graph.specs.Graph.{is_live_in}
use Rattle.scr_block_graph.specs.declared.point.Block.{Block}
use Rattle.scr_block_graph.specs.declared.point.Point.TheVariants as points
use Rattle.scr_tree.specs.Points.{StandsIn}
use Rattle.scr_tree.specs.Ready.{reckoning_on}
use Rattle.scr_tree.specs.declared.graph.Numbers.{Numbers}
use Rattle.scr_tree.proofs.Here.{lives-here, numbers-here, stands-here}
use Rattle.scr_tree.proofs.single.figure_of_block.Goals as goal

pub block_at-requires : goal.block_at-requires
block_at-requires g c = numbers-here c.args.basis c.requires.basis c.numbers.result c.numbers.ensures

pub unreachable-requires : goal.unreachable-requires
unreachable-requires g c =
    let b = c.args.basis in
    let ready = c.requires.ready in
    let here = c.requires.block in
    let live : is_live_in (rolled_of b.inputs.book.now) (points.Block here.0) ≡ true =
    subst (λ p. is_live_in (rolled_of b.inputs.book.now) p ≡ true)
    (c.requires.basis.graph.numbers_of.numbers.exact c.args.number ready.node (points.Block here.0) ready.at here.1) ready.live in
    (subst (λ (m : Numbers). (block : Block) → StandsIn m.book.now m.places.now m.lists.now (points.Block block) c.args.number
    → is_live_in (rolled_of m.book.now) (points.Block block) ≡ true → ⊥) c.numbers.ensures (c.in_default.ensures.absent refl)) here.0 here.1 live

pub block_up-requires-clause-at : goal.block_up-requires-clause-at
block_up-requires-clause-at g c =
    stands-here c.args.basis c.requires.basis c.numbers.result c.numbers.ensures (points.Block c.in-Some.block) c.args.number c.in-Some.ensures.there

pub block_up-requires-clause-live : goal.block_up-requires-clause-live
block_up-requires-clause-live g c =
    let ready = c.requires.ready in
    lives-here c.args.basis c.requires.basis c.numbers.result c.numbers.ensures c.args.number (ready.node, ready.at, ready.live)
    (points.Block c.in-Some.block) c.in-Some.ensures.there

pub returns-clause-figure : goal.returns-clause-figure
returns-clause-figure g c = λ point at.
    let b = c.args.basis in
    let own = stands-here b c.requires.basis c.numbers.result c.numbers.ensures (points.Block c.in-Some.block) c.args.number c.in-Some.ensures.there in
    c.block_up.ensures ∙ ap (reckoning_on b).worth (c.requires.basis.graph.numbers_of.numbers.exact c.args.number (points.Block c.in-Some.block) point own at)
