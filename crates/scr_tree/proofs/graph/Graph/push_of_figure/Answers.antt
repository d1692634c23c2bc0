use Rattle.std.proofs.Common.{◌≡◌, IfSome, Option, is_some, true, false, ap, subst, sym, ◌∙◌}
use Rattle.scr_nodes.proofs.Walks.{on_ok}
use Rattle.scr_reachability.specs.Linked.{sources_in as linked_in}
use Rattle.scr_block_graph.specs.Books.{rolled_of}
use Rattle.scr_block_graph.specs.Graph.{reads, sources_in}
use Rattle.scr_block_graph.specs.Sums.{first_sum}
use Rattle.scr_block_graph.specs.declared.point.Point.TheVariants as points
use Rattle.scr_block_graph.specs.declared.sum.Sum.{Sum}
use Rattle.scr_tree.specs.Points.{is_beside}
use Rattle.scr_tree.proofs.PointSources.{Pushed, both-pushed, first-read, linked-at, second-read}
use Rattle.scr_tree.proofs.graph.Graph.push_of_figure.Goals as goal

pub returns-then-is_none : goal.returns-then-is_none
returns-then-is_none c =
    let numbers = c.args.self.now.numbers in
    let book = numbers.book.now in
    let places = numbers.places.now in
    let lists = numbers.lists.now in
    let node = c.args.node.now in
    let edges = c.args.self.now.links.now.edges in
    let none : is_some (first_sum node) ≡ false = sym (ap is_some c.sums_of-first.ensures.first) ∙ c.if-is_none.ensures in
    let other : is_beside node ≡ false = sym c.is_beside.ensures ∙ c.if-is_beside.false in
    on_ok c.push_linked.result _ (Pushed book places lists c.args.list.now.items c.push_linked.new.list.items (sources_in (rolled_of book) (points.Figure node)))
    (λ now. (linked_in edges c.args.number, now, linked-at book places lists edges c.requires.graph node c.args.number c.requires.at c.requires.live none other))
    c.push_linked.ensures

pub push_tops-requires-clause-reads : goal.push_tops-requires-clause-reads
push_tops-requires-clause-reads c =
    let sheet = c.args.self.now.numbers.book.now.sheet in
    subst (λ (o : Option Sum). IfSome o (λ (s : Sum). reads sheet s ≡ true)) (sym c.sums_of-first.ensures.first)
    (first-read sheet c.args.node.now c.requires.live)

pub push_tops-requires-2-clause-reads : goal.push_tops-requires-2-clause-reads
push_tops-requires-2-clause-reads c =
    let sheet = c.args.self.now.numbers.book.now.sheet in
    subst (λ (o : Option Sum). IfSome o (λ (s : Sum). reads sheet s ≡ true)) (sym c.sums_of-first.ensures.second)
    (second-read sheet c.args.node.now c.requires.live)

pub returns : goal.returns
returns c =
    let numbers = c.args.self.now.numbers in
    let book = numbers.book.now in
    let places = numbers.places.now in
    let lists = numbers.lists.now in
    let node = c.args.node.now in
    let some : is_some c.sums_of-first.result.0 ≡ true = c.if-is_none.ensures in
    on_ok c.push_tops-2.result _ (Pushed book places lists c.args.list.now.items c.push_tops-2.new.list.items (sources_in (rolled_of book) (points.Figure node)))
    (both-pushed book places lists node c.sums_of-first.result.0 c.sums_of-first.result.1 c.sums_of-first.ensures.first c.sums_of-first.ensures.second some
    c.args.list.now.items c.push_tops.new.list.items c.push_tops-2.new.list.items c.in_ok-push_tops.ensures)
    c.push_tops-2.ensures
