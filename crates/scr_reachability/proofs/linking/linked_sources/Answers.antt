use Rattle.std.proofs.Common.{◌++◌, ℕ, List, map, ap, ap₂, ◌∙◌}
use Rattle.std.proofs.lemmas.Simd.{map-map}
use Rattle.scr_links.specs.Edges.{Edge}
use Rattle.scr_reachability.specs.Linked.{edges_to}
use Rattle.scr_reachability.proofs.linking.linked_sources.Goals as goal

pub loop-source-init : goal.loop-source-init
loop-source-init c =
    ap₂ (λ (done left : List ℕ). done ++ left) c.new-list.ensures.items
    (ap (map (λ (source : ℕ × ℕ). source.0))
    (c.into_iter-source-iterator.ensures.into_iter_gives ∙ c.sources-source-items.ensures)
    ∙ map-map (λ (source : ℕ × ℕ). source.0) (λ (e : Edge). (e.source, e.id))
    (edges_to c.args.links.now.edges c.args.number))
