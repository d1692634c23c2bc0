use Rattle.std.proofs.Common.{◌≡◌, ℕ, ◌+◌, ◌<◌, ◌≤◌, ◌++◌, ◌∷◌, [], List, Contains, get_or, nat_eq, take, sym, subst, ◌∙◌, arith}
use Rattle.std.specs.BTreeSet.{insert_key}
use Rattle.std.specs.Ordering.{nat_cmp, ordering_then}
use Rattle.std.proofs.lemmas.List.{take_all, take_more}
use Rattle.std.proofs.lemmas.List.Elements.{Contains-get_or}
use Rattle.std.proofs.lemmas.Map.Lookups.{exact_pairs, exact_unsigned}
use Rattle.indexmap.specs.IndexMap.{insert_entry}
use Rattle.scr_funds.specs.Edges.{edges_in}
use Rattle.scr_funds.specs.Ranks.{rank_now}
use Rattle.scr_funds.specs.declared.lowering.Lowering.{Lowering}
use Rattle.scr_funds.proofs.Lowered.{Sinking, sinking_all, sinking_kept, sinking_one, pending-put, pending-stays}
use Rattle.scr_funds.proofs.lowering.Lowering.lower.Goals as goal
use Rattle.scr_funds.proofs.lowering.Lowering.lower.Goals.{then-rank-below+in_ok-insert+in_ok-insert-2, else-rank-below}

pub loop-component-preserved : goal.loop-component-preserved
loop-component-preserved c =
    subst (λ seen. Sinking (edges_in c.args.edges.now) c.args.edges.now.ranks.now c.args.fund c.in-Some.below seen
    c.if-rank-below.self.fresh.entries c.if-rank-below.self.pending.keys) (sym next) (elim c.if-rank-below.branch [
      | then-rank-below+in_ok-insert+in_ok-insert-2 w ↦
          let over : c.in-Some.below < c.rank-in-loop-component.result = w.if-rank-below.true in
          let more : ℕ × ℕ = (w.rank_of-before.result, item) in
          subst (λ (s : Lowering). Sinking (edges_in c.args.edges.now) c.args.edges.now.ranks.now c.args.fund
          c.in-Some.below (seen ++ item ∷ []) s.fresh.entries s.pending.keys) (sym w.self-is)
          (subst (λ es. Sinking (edges_in c.args.edges.now) c.args.edges.now.ranks.now c.args.fund
          c.in-Some.below (seen ++ item ∷ []) es w.insert-then-rank-below.new.self.keys)
          (sym w.in_ok-insert.ensures.entries)
          (subst (λ ks. Sinking (edges_in c.args.edges.now) c.args.edges.now.ranks.now c.args.fund
          c.in-Some.below (seen ++ item ∷ [])
          (insert_entry nat_eq c.loop-component.self.fresh.entries item c.in-Some.below) ks)
          (sym w.in_ok-insert-2.ensures.keys)
          (sinking_one (edges_in c.args.edges.now) c.args.edges.now.ranks.now c.args.fund c.in-Some.below seen
          c.loop-component.self.fresh.entries c.loop-component.self.pending.keys item c.loop-component.invariant
          (omega (arith, over, rank)) (c.requires.within c.args.fund item among)
          (insert_key (λ (x y : ℕ × ℕ). ordering_then (nat_cmp x.0 y.0) (nat_cmp x.1 y.1))
          c.loop-component.self.pending.keys more)
          (λ x p. pending-stays (λ (x y : ℕ × ℕ). ordering_then (nat_cmp x.0 y.0) (nat_cmp x.1 y.1))
          (exact_pairs nat_cmp nat_cmp exact_unsigned exact_unsigned) c.loop-component.self.pending.keys more x p)
          (pending-put (λ (x y : ℕ × ℕ). ordering_then (nat_cmp x.0 y.0) (nat_cmp x.1 y.1))
          (exact_pairs nat_cmp nat_cmp exact_unsigned exact_unsigned) c.loop-component.self.pending.keys more))))
      | else-rank-below w ↦
          let enough : c.rank-in-loop-component.result ≤ c.in-Some.below = omega (arith, w.if-rank-below.false) in
          subst (λ (s : Lowering). Sinking (edges_in c.args.edges.now) c.args.edges.now.ranks.now c.args.fund
          c.in-Some.below (seen ++ item ∷ []) s.fresh.entries s.pending.keys) (sym w.self-is)
          (sinking_kept (edges_in c.args.edges.now) c.args.edges.now.ranks.now c.args.fund c.in-Some.below seen
          c.loop-component.self.fresh.entries c.loop-component.self.pending.keys item c.loop-component.invariant
          (omega (arith, enough, rank)))
    ])
  where
    item : ℕ
    item = get_or c.components_of-components.result.now c.loop-component.component-index 0

    seen : List ℕ
    seen = take c.loop-component.component-index c.components_of-components.result.now

    next : take (c.loop-component.component-index + 1) c.components_of-components.result.now
        ≡ take c.loop-component.component-index c.components_of-components.result.now
        ++ get_or c.components_of-components.result.now c.loop-component.component-index 0 ∷ []
    next = take_more c.components_of-components.result.now c.loop-component.component-index 0 c.loop-component-test.true

    rank : c.rank-in-loop-component.result
        ≡ rank_now c.args.edges.now.ranks.now c.loop-component.self.fresh.entries
        (get_or c.components_of-components.result.now c.loop-component.component-index 0)
    rank = c.rank-in-loop-component.ensures

    among : Contains (edges_in c.args.edges.now c.args.fund)
        (get_or c.components_of-components.result.now c.loop-component.component-index 0)
    among = subst (λ row. Contains row (get_or c.components_of-components.result.now c.loop-component.component-index 0))
        c.components_of-components.ensures
        (Contains-get_or c.components_of-components.result.now c.loop-component.component-index 0
        c.loop-component-test.true)

pub returns : goal.returns
returns c = λ same.
    sinking_all (edges_in c.args.edges.now) c.args.edges.now.ranks.now c.args.fund c.in-Some.below
    c.loop-component.self.fresh.entries c.loop-component.self.pending.keys
    (subst (λ seen. Sinking (edges_in c.args.edges.now) c.args.edges.now.ranks.now c.args.fund c.in-Some.below seen
    c.loop-component.self.fresh.entries c.loop-component.self.pending.keys)
    (take_all c.loop-component.component-index c.components_of-components.result.now
    (omega (arith, c.loop-component-test.false)) ∙ c.components_of-components.ensures) c.loop-component.invariant)
