use Rattle.std.proofs.Common.{refl, subst}
use Rattle.scr_reachability.specs.Linked.{AreAt}
use Rattle.scr_block_graph.specs.Books.{rolled_of}
use Rattle.scr_block_graph.specs.Graph.{sources_in}
use Rattle.scr_tree.specs.Ready.{StandsOn}
use Rattle.scr_tree.proofs.Here.{at-graph, found-here, graph-here, live-graph, lives-here, numbers-here, pushed-here, stands-here, valid-here}
use Rattle.scr_tree.proofs.together.sources_at.Goals as goal

pub point_at-requires : goal.point_at-requires
point_at-requires c = numbers-here c.args.basis c.requires.basis c.numbers.result c.numbers.ensures

pub push_sources-requires-clause-graph : goal.push_sources-requires-clause-graph
push_sources-requires-clause-graph c = graph-here c.args.basis c.requires.basis c.graph.result c.graph.ensures

pub push_sources-requires-clause-valid : goal.push_sources-requires-clause-valid
push_sources-requires-clause-valid c = valid-here c.args.basis c.requires.basis c.graph.result c.graph.ensures

pub push_sources-requires-clause-at : goal.push_sources-requires-clause-at
push_sources-requires-clause-at c =
    let b = c.args.basis in
    at-graph b c.requires.basis c.graph.result c.graph.ensures c.in-Some.point c.args.number
    (stands-here b c.requires.basis c.numbers.result c.numbers.ensures c.in-Some.point c.args.number c.in-Some.ensures.there)

pub push_sources-requires-clause-live : goal.push_sources-requires-clause-live
push_sources-requires-clause-live c =
    let b = c.args.basis in
    live-graph b c.requires.basis c.graph.result c.graph.ensures c.in-Some.point
    (lives-here b c.requires.basis c.numbers.result c.numbers.ensures c.args.number c.requires.live c.in-Some.point c.in-Some.ensures.there)

pub unreachable-requires : goal.unreachable-requires
unreachable-requires c =
    found-here c.args.basis c.requires.basis c.numbers.result c.numbers.ensures c.args.number c.requires.live (c.in_default.ensures.absent refl)

pub returns : goal.returns
returns c = λ point at.
    let b = c.args.basis in
    let own = stands-here b c.requires.basis c.numbers.result c.numbers.ensures c.in-Some.point c.args.number c.in-Some.ensures.there in
    subst (λ p. AreAt (StandsOn b) c.push_sources.new.list.items (sources_in (rolled_of b.inputs.book.now) p))
    (c.requires.basis.graph.numbers_of.numbers.exact c.args.number c.in-Some.point point own at)
    (pushed-here b c.requires.basis c.graph.result c.graph.ensures c.in-Some.point c.new-sources.result.items c.push_sources.new.list.items
    c.new-sources.ensures.items c.in_ok-push_sources.ensures)
