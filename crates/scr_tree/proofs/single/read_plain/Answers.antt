use Rattle.std.proofs.Common.{◌≡◌, ℕ, ◌++◌, All, List, true, is_some, length, ap, subst, sym, ◌<◌, ◌∙◌}
use Rattle.scr_nodes.specs.Live.{is_live}
use Rattle.scr_reachability.specs.Linked.{sources_in as linked_in}
use Rattle.scr_block_graph.specs.Books.{rolled_of}
use Rattle.scr_block_graph.specs.Graph.{is_live_in, sources_in}
use Rattle.scr_block_graph.specs.declared.point.Point.TheVariants as points
use Rattle.scr_tree.specs.Figures.{AreReadAt}
use Rattle.scr_tree.specs.Ready.{reckoning_on}
use Rattle.scr_tree.specs.declared.graph.Graph.{Graph}
use Rattle.scr_tree.proofs.Here.{at-graph, graph-here, have-here, pushed-here, within-here}
use Rattle.scr_tree.proofs.Known.{read-right}
use Rattle.scr_tree.proofs.MarkedMore.{ok-then}
use Rattle.scr_tree.proofs.PointSources.{linked-at}
use Rattle.scr_tree.proofs.single.read_plain.Goals as goal

pub read-requires : goal.read-requires
read-requires c =
    let b = c.args.basis in
    let ready = c.requires.ready in
    let live : is_live b.inputs.book.now.sheet c.args.node.now ≡ true =
    subst (λ p. is_live_in (rolled_of b.inputs.book.now) p ≡ true)
    (c.requires.basis.graph.numbers_of.numbers.exact c.args.number ready.node (points.Figure c.args.node.now) ready.at c.requires.at) ready.live in
    let linked = linked-at b.inputs.book.now b.places.now b.lists.now b.links.now.edges c.requires.basis.graph c.args.node.now c.args.number c.requires.at live
    (ap is_some c.requires.plain) (sym c.is_beside.ensures ∙ c.if-not-is_beside.true) in
    let list : c.push_linked.new.list.items ≡ linked_in b.links.now.edges c.args.number =
    c.in_ok-push_linked.ensures ∙ ap (λ xs. xs ++ linked_in c.graph.result.links.now.edges c.args.number) c.clear.ensures.items
    ∙ ap (λ (g : Graph). linked_in g.links.now.edges c.args.number) c.graph.ensures in
    subst (All (λ source. source < length c.args.figures.now)) (sym (c.as_slice.ensures.value ∙ list))
    (within-here b c.requires.basis c.args.figures.now c.args.number ready (points.Figure c.args.node.now) c.requires.at (linked_in b.links.now.edges c.args.number) linked)

pub returns-then-not-is_beside : goal.returns-then-not-is_beside
returns-then-not-is_beside c =
    let b = c.args.basis in
    let ready = c.requires.ready in
    let live : is_live b.inputs.book.now.sheet c.args.node.now ≡ true =
    subst (λ p. is_live_in (rolled_of b.inputs.book.now) p ≡ true)
    (c.requires.basis.graph.numbers_of.numbers.exact c.args.number ready.node (points.Figure c.args.node.now) ready.at c.requires.at) ready.live in
    let here = points.Figure c.args.node.now in
    let linked = linked-at b.inputs.book.now b.places.now b.lists.now b.links.now.edges c.requires.basis.graph c.args.node.now c.args.number c.requires.at live
    (ap is_some c.requires.plain) (sym c.is_beside.ensures ∙ c.if-not-is_beside.true) in
    let list : c.push_linked.new.list.items ≡ linked_in b.links.now.edges c.args.number =
    c.in_ok-push_linked.ensures ∙ ap (λ xs. xs ++ linked_in c.graph.result.links.now.edges c.args.number) c.clear.ensures.items
    ∙ ap (λ (g : Graph). linked_in g.links.now.edges c.args.number) c.graph.ensures in
    ok-then c.read.result c.read.ensures (λ now.
    let read = subst (λ (xs : List ℕ). AreReadAt c.args.figures.now xs c.read.new.below) (c.as_slice.ensures.value ∙ list) now in
    read-right (reckoning_on b) c.args.figures.now (linked_in b.links.now.edges c.args.number) (sources_in (rolled_of b.inputs.book.now) here)
    c.read.new.below
    (have-here b c.requires.basis c.args.figures.now c.args.number ready here c.requires.at (linked_in b.links.now.edges c.args.number) linked) read)

pub push_beside-requires-clause-numbers : goal.push_beside-requires-clause-numbers
push_beside-requires-clause-numbers c = (graph-here c.args.basis c.requires.basis c.graph-2.result c.graph-2.ensures).numbers_of

pub push_beside-requires-clause-at : goal.push_beside-requires-clause-at
push_beside-requires-clause-at c =
    at-graph c.args.basis c.requires.basis c.graph-2.result c.graph-2.ensures (points.Figure c.args.node.now) c.args.number c.requires.at

pub push_beside-requires-clause-beside : goal.push_beside-requires-clause-beside
push_beside-requires-clause-beside c = sym c.is_beside.ensures ∙ c.if-not-is_beside.false

pub read-requires-2 : goal.read-requires-2
read-requires-2 c =
    let b = c.args.basis in
    let here = points.Figure c.args.node.now in
    let list = c.push_beside.new.list.items in
    subst (All (λ source. source < length c.args.figures.now)) (sym c.as_slice-2.ensures.value)
    (within-here b c.requires.basis c.args.figures.now c.args.number c.requires.ready here c.requires.at list
    (pushed-here b c.requires.basis c.graph-2.result c.graph-2.ensures here c.clear.new.self.items list c.clear.ensures.items c.in_ok-push_beside.ensures))

pub returns : goal.returns
returns c =
    let b = c.args.basis in
    let here = points.Figure c.args.node.now in
    let list = c.push_beside.new.list.items in
    let there = pushed-here b c.requires.basis c.graph-2.result c.graph-2.ensures here c.clear.new.self.items list c.clear.ensures.items c.in_ok-push_beside.ensures in
    ok-then c.read-2.result c.read-2.ensures (λ now.
    let read = subst (λ (xs : List ℕ). AreReadAt c.args.figures.now xs c.read-2.new.below) c.as_slice-2.ensures.value now in
    read-right (reckoning_on b) c.args.figures.now list (sources_in (rolled_of b.inputs.book.now) here) c.read-2.new.below
    (have-here b c.requires.basis c.args.figures.now c.args.number c.requires.ready here c.requires.at list there) read)
