use Rattle.std.proofs.Common.{◌≡◌, ◌||◌, true, map, ap, subst, sym, ◌∙◌}
use Rattle.scr_nodes.specs.Live.{is_live}
use Rattle.scr_num.specs.Rounding.{ends}
use Rattle.scr_block_graph.specs.Books.{rolled_of}
use Rattle.scr_block_graph.specs.Graph.{is_live_in}
use Rattle.scr_block_graph.specs.declared.point.Point.TheVariants as points
use Rattle.scr_tree.specs.Ready.{reckoning_on}
use Rattle.scr_tree.proofs.Spanned.{point-right}
use Rattle.scr_tree.proofs.single.figure_of_node.Goals as goal

pub summed_up-requires-clause-live : goal.summed_up-requires-clause-live
summed_up-requires-clause-live g c =
    let b = c.args.basis in
    let ready = c.requires.ready in
    let live : is_live b.inputs.book.now.sheet c.args.node.now ≡ true =
    subst (λ p. is_live_in (rolled_of b.inputs.book.now) p ≡ true)
    (c.requires.basis.graph.numbers_of.numbers.exact c.args.number ready.node (points.Figure c.args.node.now) ready.at c.requires.at) ready.live in
    live

pub summed_up-requires-clause-first : goal.summed_up-requires-clause-first
summed_up-requires-clause-first g c = sym c.first_sum.ensures ∙ c.in-Some.is

pub returns-in-Some-clause-figure : goal.returns-in-Some-clause-figure
returns-in-Some-clause-figure g c = λ point at.
    c.summed_up.ensures.figure
    ∙ ap (reckoning_on c.args.basis).worth (c.requires.basis.graph.numbers_of.numbers.exact c.args.number (points.Figure c.args.node.now) point c.requires.at at)

pub read_plain-requires-clause-plain : goal.read_plain-requires-clause-plain
read_plain-requires-clause-plain g c = sym c.first_sum.ensures ∙ c.in_default.is

pub plain_of-span-requires-clause-inputs : goal.plain_of-span-requires-clause-inputs
plain_of-span-requires-clause-inputs g c = c.requires.basis.rates

pub plain_of-span-requires-clause-live : goal.plain_of-span-requires-clause-live
plain_of-span-requires-clause-live g c =
    let b = c.args.basis in
    let ready = c.requires.ready in
    let live : is_live b.inputs.book.now.sheet c.args.node.now ≡ true =
    subst (λ p. is_live_in (rolled_of b.inputs.book.now) p ≡ true)
    (c.requires.basis.graph.numbers_of.numbers.exact c.args.number ready.node (points.Figure c.args.node.now) ready.at c.requires.at) ready.live in
    live

pub plain_of-span-requires-clause-plain : goal.plain_of-span-requires-clause-plain
plain_of-span-requires-clause-plain g c = sym c.first_sum.ensures ∙ c.in_default.is

pub plain_of-span-requires-clause-below : goal.plain_of-span-requires-clause-below
plain_of-span-requires-clause-below g c = ap (map ends) c.as_slice.ensures.value ∙ c.in_ok-read_plain.ensures.spans

pub returns-clause-figure : goal.returns-clause-figure
returns-clause-figure g c = λ point at.
    let b = c.args.basis in
    let here = points.Figure c.args.node.now in
    let below = c.read_plain.new.scratch.below.close in
    point-right b c.requires.basis here c.plain_of-span.result (c.is_open_choice.result || below) below c.plain_of-span.ensures.span
    c.in_ok-read_plain.ensures.close (ap (λ t. t || below) c.is_open_choice.ensures)
    ∙ ap (reckoning_on b).worth (c.requires.basis.graph.numbers_of.numbers.exact c.args.number here point c.requires.at at)
