use Rattle.std.proofs.Common.{◌||◌, map, ap, ◌∙◌}
use Rattle.scr_nodes.specs.declared.node.Node.TheVariants as nodes
use Rattle.scr_num.specs.Rounding.{ends}
use Rattle.scr_block_graph.specs.declared.point.Point.TheVariants as points
use Rattle.scr_tree.specs.Ready.{reckoning_on}
use Rattle.scr_tree.proofs.Spanned.{point-right}
use Rattle.scr_tree.proofs.WholeRead.{whole-live, whole-read, whole-within}
use Rattle.scr_tree.proofs.single.figure_of_whole.Goals as goal

pub read_linked-requires : goal.read_linked-requires
read_linked-requires g c =
    whole-within c.args.basis c.requires.basis c.args.figures.now c.args.number c.requires.ready c.args.what c.requires.at c.requires.plain

pub plain_of-span-requires-clause-inputs : goal.plain_of-span-requires-clause-inputs
plain_of-span-requires-clause-inputs g c = c.requires.basis.rates

pub plain_of-span-requires-clause-live : goal.plain_of-span-requires-clause-live
plain_of-span-requires-clause-live g c =
    whole-live c.args.basis c.requires.basis c.args.figures.now c.args.number c.requires.ready c.args.what c.requires.at

pub plain_of-span-requires-clause-below : goal.plain_of-span-requires-clause-below
plain_of-span-requires-clause-below g c =
    let read = whole-read c.args.basis c.requires.basis c.args.figures.now c.args.number c.requires.ready c.args.what c.requires.at c.requires.plain
    c.read_linked.new.below c.in_ok-read_linked.ensures in
    ap (map ends) c.as_slice.ensures.value ∙ read.spans

pub returns-clause-figure : goal.returns-clause-figure
returns-clause-figure g c = λ point at.
    let b = c.args.basis in
    let here = points.Figure (nodes.Whole c.args.what) in
    let below = c.read_linked.new.below.close in
    let read = whole-read b c.requires.basis c.args.figures.now c.args.number c.requires.ready c.args.what c.requires.at c.requires.plain
    c.read_linked.new.below c.in_ok-read_linked.ensures in
    point-right b c.requires.basis here c.plain_of-span.result (c.is_open_choice.result || below) below c.plain_of-span.ensures.span
    read.close (ap (λ t. t || below) c.is_open_choice.ensures)
    ∙ ap (reckoning_on b).worth (c.requires.basis.graph.numbers_of.numbers.exact c.args.number here point c.requires.at at)
