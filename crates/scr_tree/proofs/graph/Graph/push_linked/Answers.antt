use Rattle.std.proofs.Common.{◌++◌, ℕ, List, map, ap, ◌∙◌}
use Rattle.std.proofs.lemmas.Simd.{map-map}
use Rattle.scr_links.specs.Edges.{Edge}
use Rattle.scr_reachability.specs.Linked.{edges_to}
use Rattle.scr_tree.proofs.graph.Graph.push_linked.Goals as goal

pub loop-source-init : goal.loop-source-init
loop-source-init c =
    ap (λ (left : List ℕ). c.args.list.now.items ++ left)
    (ap (map (λ (source : ℕ × ℕ). source.0))
    (c.into_iter-source-iterator.ensures.into_iter_gives ∙ c.sources-source-items.ensures)
    ∙ map-map (λ (source : ℕ × ℕ). source.0) (λ (e : Edge). (e.source, e.id))
    (edges_to c.args.self.now.links.now.edges c.args.number))
