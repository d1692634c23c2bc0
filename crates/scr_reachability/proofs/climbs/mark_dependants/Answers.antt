use Rattle.std.proofs.Common.{◌<◌, ℕ, List, map, nat_eq, refl, sym, ap, subst, ◌∙◌, inl, inr, arith}
use Rattle.indexmap.specs.IndexSet.{insert_all}
use Rattle.scr_links.specs.Edges.{Edge}
use Rattle.scr_reachability.proofs.Climbing.{dependants_below}
use Rattle.scr_reachability.proofs.Members.{IsMember}
use Rattle.scr_reachability.proofs.climbs.mark_dependants.Goals as goal

pub loop-dependant-init : goal.loop-dependant-init
loop-dependant-init c =
    let items = c.into_iter-dependant-iterator.ensures.into_iter_gives ∙ c.dependants-dependant-items.ensures in
    record {
      rest = ap (λ (pairs : List (ℕ × ℕ)). insert_all nat_eq c.args.marked.now.list (map (λ (e : ℕ × ℕ). e.0) pairs)) items;
      size = refl;
      within = λ d m.
          dependants_below c.args.links.now c.args.number c.args.marked.now.size
          (λ k e l is.
          let low = c.size.ensures.below k e l in
          subst (λ (x : Edge). x.dependant < c.args.marked.now.size) is (omega (arith, low.1, c.requires)))
          d (subst (λ (pairs : List (ℕ × ℕ)). IsMember d (map (λ (e : ℕ × ℕ). e.0) pairs)) items m);
    }

pub insert-requires : goal.insert-requires
insert-requires c =
    let low = c.loop-dependant.invariant.within c.in-Some.dependant
    (subst (λ (pairs : List (ℕ × ℕ)). IsMember c.in-Some.dependant (map (λ (e : ℕ × ℕ). e.0) pairs)) (sym c.in-Some.ensures.steps)
    (inl refl)) in
    omega (arith, low, c.loop-dependant.invariant.size)

pub loop-dependant-preserved : goal.loop-dependant-preserved
loop-dependant-preserved c = record {
  rest = ap (λ (ks : List ℕ). insert_all nat_eq ks (map (λ (e : ℕ × ℕ). e.0) c.next.new.self)) c.in_ok-insert.ensures.ok
      ∙ ap (λ (pairs : List (ℕ × ℕ)). insert_all nat_eq c.loop-dependant.marked.list (map (λ (e : ℕ × ℕ). e.0) pairs)) (sym c.in-Some.ensures.steps)
      ∙ c.loop-dependant.invariant.rest;
  size = c.in_ok-insert.ensures.size ∙ c.loop-dependant.invariant.size;
  within = λ d m.
      c.loop-dependant.invariant.within d
      (subst (λ (pairs : List (ℕ × ℕ)). IsMember d (map (λ (e : ℕ × ℕ). e.0) pairs)) (sym c.in-Some.ensures.steps) (inr m));
}
