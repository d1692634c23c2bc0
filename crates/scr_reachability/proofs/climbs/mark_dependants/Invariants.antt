-- What is left of the dependants is still to be marked, and each can be.
use Rattle.std.proofs.Common.{◌≡◌, ◌<◌, ℕ, map, nat_eq}
use Rattle.indexmap.specs.IndexSet.{insert_all}
use Rattle.scr_links.specs.Edges.{dependants_of}
use Rattle.scr_reachability.proofs.Members.{IsMember}
use Rattle.scr_reachability.proofs.climbs.mark_dependants.Given as goal

abbrev pub invariant-loop-dependant : goal.invariant-loop-dependant
invariant-loop-dependant l = record {
  rest : insert_all nat_eq l.marked.list (map (λ edge. edge.0) l.dependant-iterator)
      ≡ insert_all nat_eq l.fn.marked.list (map (λ edge. edge.0) (dependants_of l.links l.number));
  size : l.marked.size ≡ l.fn.marked.size;
  within : (d : ℕ) → IsMember d (map (λ edge. edge.0) l.dependant-iterator) → d < l.fn.marked.size;
}
