use Rattle.std.proofs.Common.{map, refl, sym, ap, ◌∙◌}
use Rattle.scr_block_graph.specs.Books.{rolled_of}
use Rattle.scr_block_graph.specs.Graph.{sources_in}
use Rattle.scr_tree.specs.Ready.{reckoning_on}
use Rattle.scr_tree.proofs.Here.{found-here, lives-here, numbers-here, stands-here}
use Rattle.scr_tree.proofs.Spanned.{due-basis, due-is, ends-each, ends-here}
use Rattle.scr_tree.proofs.Upright.{book-up}
use Rattle.scr_tree.proofs.together.KnownPlan.rule.Goals as goal

pub point_at-requires : goal.point_at-requires
point_at-requires g c =
    let b = c.args.self.now.basis in
    numbers-here b (due-basis b c.args.due.now c.requires.due) c.numbers.result c.numbers.ensures

pub span_of-requires-clause-inputs : goal.span_of-requires-clause-inputs
span_of-requires-clause-inputs g c = (due-basis c.args.self.now.basis c.args.due.now c.requires.due).rates

pub span_of-requires-clause-live : goal.span_of-requires-clause-live
span_of-requires-clause-live g c =
    let b = c.args.self.now.basis in
    let of = due-is b c.args.due.now c.requires.due in
    lives-here b (due-basis b c.args.due.now c.requires.due) c.numbers.result c.numbers.ensures c.args.due.now.number (of.node, of.at, of.live)
    c.in-Some.point c.in-Some.ensures.there

pub span_of-requires-clause-below : goal.span_of-requires-clause-below
span_of-requires-clause-below g c =
    let b = c.args.self.now.basis in
    let is = due-basis b c.args.due.now c.requires.due in
    let of = due-is b c.args.due.now c.requires.due in
    let there = stands-here b is c.numbers.result c.numbers.ensures c.in-Some.point c.args.due.now.number c.in-Some.ensures.there in
    let one = is.graph.numbers_of.numbers.exact c.args.due.now.number c.in-Some.point of.node there of.at in
    c.requires.below
    ∙ ends-each b is c.args.due.now.sources.items (sources_in (rolled_of b.inputs.book.now) of.node) of.sources
    ((book-up b is).closed of.node of.live)
    ∙ ap (λ p. map (λ q. ((reckoning_on b).worth q).worked) (sources_in (rolled_of b.inputs.book.now) p)) (sym one)

pub unreachable-requires : goal.unreachable-requires
unreachable-requires g c =
    let b = c.args.self.now.basis in
    let of = due-is b c.args.due.now c.requires.due in
    found-here b (due-basis b c.args.due.now c.requires.due) c.numbers.result c.numbers.ensures c.args.due.now.number (of.node, of.at, of.live)
    (c.in-None.ensures.absent refl)

pub returns-clause-worked : goal.returns-clause-worked
returns-clause-worked g c =
    let b = c.args.self.now.basis in
    let is = due-basis b c.args.due.now c.requires.due in
    let of = due-is b c.args.due.now c.requires.due in
    let there = stands-here b is c.numbers.result c.numbers.ensures c.in-Some.point c.args.due.now.number c.in-Some.ensures.there in
    c.span_of.ensures.span
    ∙ sym (ends-here b is c.in-Some.point c.args.due.now.number there
    (lives-here b is c.numbers.result c.numbers.ensures c.args.due.now.number (of.node, of.at, of.live) c.in-Some.point c.in-Some.ensures.there))
