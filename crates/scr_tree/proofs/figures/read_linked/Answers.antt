use Rattle.std.proofs.Common.{◌≡◌, ◌++◌, ◌<◌, ℕ, All, List, [], ◌∷◌, append-nil, append_assoc, length, map, sym, ap, subst, ◌∙◌}
use Rattle.std.proofs.lemmas.Simd.{map-map}
use Rattle.scr_links.specs.Edges.{Edge}
use Rattle.scr_reachability.specs.Linked.{edges_to, sources_in}
use Rattle.scr_tree.specs.Figures.{AreReadAt}
use Rattle.scr_tree.proofs.Known.{from-all, read-next}
use Rattle.scr_tree.proofs.figures.read_linked.Goals as goal

pub loop-source-init : goal.loop-source-init
loop-source-init c = (
  [],
  record { read = []; at = tt; spans = c.clear.ensures.spans; close = c.clear.ensures.close },
  ap (map (λ (source : ℕ × ℕ). source.0)) (c.into_iter-source-iterator.ensures.into_iter_gives ∙ c.sources-source-items.ensures)
      ∙ map-map (λ (source : ℕ × ℕ). source.0) (λ (e : Edge). (e.source, e.id)) (edges_to c.args.links.now.edges c.args.number),
)

pub figure-requires : goal.figure-requires
figure-requires c =
    let so_far = c.loop-source.invariant in
    let next : so_far.0 ++ c.in-Some.source ∷ map (λ (source : ℕ × ℕ). source.0) c.next.new.self ≡ sources_in c.args.links.now.edges c.args.number =
    ap (λ (left : List (ℕ × ℕ)). so_far.0 ++ map (λ (source : ℕ × ℕ). source.0) left) (sym c.in-Some.ensures.steps) ∙ so_far.2 in
    from-all (λ n. n < length c.args.figures.now) so_far.0 (map (λ (source : ℕ × ℕ). source.0) c.next.new.self) c.in-Some.source
    (subst (All (λ n. n < length c.args.figures.now)) (sym next) c.requires)

pub loop-source-preserved : goal.loop-source-preserved
loop-source-preserved c =
    let so_far = c.loop-source.invariant in
    let next : so_far.0 ++ c.in-Some.source ∷ map (λ (source : ℕ × ℕ). source.0) c.next.new.self ≡ sources_in c.args.links.now.edges c.args.number =
    ap (λ (left : List (ℕ × ℕ)). so_far.0 ++ map (λ (source : ℕ × ℕ). source.0) left) (sym c.in-Some.ensures.steps) ∙ so_far.2 in (
      so_far.0 ++ c.in-Some.source ∷ [],
      read-next c.args.figures.now so_far.0 c.in-Some.source c.figure.result c.loop-source.below c.push.new.self so_far.1 c.figure.ensures
          c.in_ok-push.ensures.spans c.in_ok-push.ensures.close,
      append_assoc so_far.0 (c.in-Some.source ∷ []) (map (λ (source : ℕ × ℕ). source.0) c.next.new.self) ∙ next,
    )

pub returns : goal.returns
returns c =
    let so_far = c.loop-source.invariant in
    subst (λ (xs : List ℕ). AreReadAt c.args.figures.now xs c.loop-source.below)
    (sym (append-nil so_far.0)
    ∙ ap (λ (left : List (ℕ × ℕ)). so_far.0 ++ map (λ (source : ℕ × ℕ). source.0) left) (sym c.in-None.ensures.steps.0)
    ∙ so_far.2) so_far.1
