-- Once what is due is linked to the starts, the links are those of the graph, and links can be made as they were.
use Rattle.std.proofs.Common.{◌≡◌, ◌⊎◌, inl, inr, ℕ, Bool, true, false, cond, List, [], ◌∷◌, map, Contains, refl, sym, ap, subst, ◌∙◌}
use Rattle.std.specs.List.{AllByRecursion}
use Rattle.scr_funds.proofs.Members.{IsMember, IsMember-from_Contains, Contains-from_IsMember, IsMember-map, at_member}
use Rattle.scr_links.specs.Edges.{Edge}
use Rattle.scr_reachability.specs.declared.ranks.Due.{Due}
use Rattle.scr_reachability.specs.LinkedDues.{AreDuesFor, AreEdited, AreRelinked, IsDueAt, numbers_of}
use Rattle.scr_reachability.specs.Graph.{Graph, IsClosed, IsLive}
use Rattle.scr_reachability.specs.Linked.{AreAt, AreLinked, AreNumbers, linked_to, sources_in}
use Rattle.scr_reachability.proofs.Edits.{elsewhere-same, sources-linked}
use Rattle.scr_reachability.proofs.Placed.{at-weaker, edge-from, number-or, source-of}
use Rattle.scr_reachability.proofs.LinkedReaching.{linked-live, or-left}

module _ (dues : List Due) (old new : List Edge) (relinked : AreRelinked dues old new) where
  -- what is due is linked
  pub due-linked : (P : Due → Type 0) → AllByRecursion P dues → (number : ℕ) → Contains (numbers_of dues) number
      → (due : Due) × (due.number ≡ number) × (sources_in new number ≡ due.sources.items) × P due
  due-linked P each number h =
      let d = IsMember-map (λ (due : Due). due.number) dues number (IsMember-from_Contains (numbers_of dues) number h) in (
        d.0,
        d.2,
        ap (sources_in new) (sym d.2)
            ∙ at_member (λ (due : Due). sources_in new due.number ≡ due.sources.items) dues d.0 relinked.made d.1,
        at_member P dues d.0 each d.1,
      )

  -- to all other numbers the same is linked
  pub kept-sources : (number : ℕ) → (Contains (numbers_of dues) number → ⊥) → sources_in new number ≡ sources_in old number
  kept-sources number none = ap (map (λ (e : Edge). e.source)) (relinked.kept number none)

-- an edge comes to the number where something is linked to it
edge-kept : (old new : List Edge) (e : Edge) → Contains new e → sources_in new e.dependant ≡ sources_in old e.dependant
    → (d : Edge) × IsMember d old × (d.source ≡ e.source) × (d.dependant ≡ e.dependant)
edge-kept old new e h same =
    edge-from old e.dependant e.source
    (subst (IsMember e.source) same (source-of new e.dependant e (IsMember-from_Contains new e h) refl))

-- where the same is linked to each number the links are of the same graph
pub linked-same : {Node : Type 0} (graph : Graph Node) (At : Node → ℕ → Type 0) (old new : List Edge) → AreLinked graph At old
    → ((number : ℕ) → sources_in new number ≡ sources_in old number) → AreLinked graph At new
linked-same graph At old new linked same = record {
  linked = λ node number at. subst (λ numbers. AreAt At numbers (linked_to graph node)) (sym (same number))
      (linked.linked node number at);
  placed = λ e h.
      let d = edge-kept old new e h (same e.dependant) in
      let n = linked.placed d.0 (Contains-from_IsMember old d.0 d.1) in
      (n.0, subst (At n.0) d.3 n.1);
}

module _ {Node : Type 0} (after : Graph Node) (closed : IsClosed after) (At : Node → ℕ → Type 0) (size : ℕ) (old new : List Edge)
    (starts : List ℕ) (edited : AreEdited after At size old starts) (dues : List Due) (due : AreDuesFor after At starts dues)
    (relinked : AreRelinked dues old new) where
  at-start : (node : Node) (number : ℕ) → At node number → Contains starts number
      → AreAt At (sources_in new number) (linked_to after node)
  at-start node number at h =
      let is = due-linked dues old new relinked (IsDueAt after At) due.each number
      (subst (λ numbers. Contains numbers number) (sym due.numbers) h) in
      subst (λ numbers. AreAt At numbers (linked_to after node)) (sym is.2) (is.3 node (subst (At node) (sym is.1) at))

  unlisted : (number : ℕ) → (Contains starts number → ⊥) → Contains (numbers_of dues) number → ⊥
  unlisted number none h = none (subst (λ numbers. Contains numbers number) due.numbers h)

  elsewhere : (node : Node) (number : ℕ) → At node number → (Contains starts number → ⊥) → (b c : Bool)
      → after.live node ≡ b → edited.before.live node ≡ c → AreAt At (sources_in old number) (linked_to after node)
  elsewhere node number at none true c live was =
      subst (AreAt At (sources_in old number)) (sym (ap (λ b. cond b (after.sources node) []) live))
      (sources-linked after closed At size old starts edited number node at live none)
  elsewhere node number at none false true live was =
      let same = elsewhere-same after closed At size old starts edited node number at none
      (or-left (edited.before.live node) (after.live node) was) in
      let clash : true ≡ false = sym was ∙ (same.0 ∙ live) in absurd (cc)
  elsewhere node number at none false false live was =
      subst (AreAt At (sources_in old number))
      (ap (λ b. cond b (edited.before.sources node) []) was ∙ sym (ap (λ b. cond b (after.sources node) []) live))
      (edited.linked.linked node number at)

  linked-anew : (node : Node) (number : ℕ) → At node number → AreAt At (sources_in new number) (linked_to after node)
  linked-anew node number at = by (number-or starts number)
    where
      by : Contains starts number ⊎ (Contains starts number → ⊥) → AreAt At (sources_in new number) (linked_to after node)
      by (inl h) = at-start node number at h
      by (inr none) =
          subst (λ numbers. AreAt At numbers (linked_to after node))
          (sym (kept-sources dues old new relinked number (unlisted number none)))
          (elsewhere node number at none (after.live node) (edited.before.live node) refl refl)

  placed-anew : (e : Edge) → Contains new e → (node : Node) × At node e.dependant
  placed-anew e h = by (number-or starts e.dependant)
    where
      by : Contains starts e.dependant ⊎ (Contains starts e.dependant → ⊥) → (node : Node) × At node e.dependant
      by (inl start) = edited.at e.dependant start
      by (inr none) =
          let d = edge-kept old new e h (kept-sources dues old new relinked e.dependant (unlisted e.dependant none)) in
          let n = edited.linked.placed d.0 (Contains-from_IsMember old d.0 d.1) in
          (n.0, subst (At n.0) d.3 n.1)

  pub links-anew : AreLinked after At new
  links-anew = record { linked = linked-anew; placed = placed-anew }

-- What was linked to the starts is due again: once it is linked, the same is linked to each number as before.
pub relinked-back : (old mid new : List Edge) (dues former : List Due) → AreRelinked dues old mid
    → numbers_of former ≡ numbers_of dues
    → AllByRecursion (λ (due : Due). due.sources.items ≡ sources_in old due.number) former → AreRelinked former mid new
    → (number : ℕ) → sources_in new number ≡ sources_in old number
relinked-back old mid new dues former there same each back number = by (number-or (numbers_of former) number)
  where
    by : Contains (numbers_of former) number ⊎ (Contains (numbers_of former) number → ⊥)
        → sources_in new number ≡ sources_in old number
    by (inl h) =
        let is = due-linked former mid new back (λ (due : Due). due.sources.items ≡ sources_in old due.number) each number h in
        is.2 ∙ is.3 ∙ ap (sources_in old) is.1
    by (inr none) =
        kept-sources former mid new back number none
        ∙ kept-sources dues old mid there number (λ h. none (subst (λ numbers. Contains numbers number) (sym same) h))

-- ---- the same links for numbers more or fewer

module _ {Node : Type 0} (graph : Graph Node) (Few Many : Node → ℕ → Type 0) (size : ℕ) (numbers : AreNumbers graph Many size)
    (live : (node : Node) → graph.live node ≡ true → (number : ℕ) × Few node number)
    (keeps : (node : Node) (number : ℕ) → Few node number → Many node number) (edges : List Edge) where
  -- a live figure that stands at one of many numbers stands there among the few
  pub stands-yet : (node : Node) (number : ℕ) → Many node number → graph.live node ≡ true → Few node number
  stands-yet node number at is =
      let own = live node is in
      subst (Few node) (numbers.only node own.0 number (keeps node own.0 own.1) at) own.1

  pub linked-more : AreLinked graph Few edges → AreLinked graph Many edges
  linked-more linked = record {
    linked = λ node number at. by node number at (graph.live node) refl;
    placed = λ e h. let n = linked.placed e h in (n.0, keeps n.0 e.dependant n.1);
  }
    where
      -- nothing is linked to a figure that the graph does not have
      none : (node : Node) (number : ℕ) → Many node number → graph.live node ≡ false → (q : ℕ)
          → IsMember q (sources_in edges number) → ⊥
      none node number at dead q h =
          let e = edge-from edges number q h in
          let n = linked.placed e.0 (Contains-from_IsMember edges e.0 e.1) in
          let here : Few n.0 number = subst (Few n.0) e.3 n.1 in
          let one : n.0 ≡ node = numbers.exact number n.0 node (keeps n.0 number here) at in
          let to = linked.linked n.0 number here in
          let empty : linked_to graph n.0 ≡ [] = ap (linked_to graph) one ∙ ap (λ b. cond b (graph.sources node) []) dead in
          nothing (sources_in edges number) (subst (AreAt Few (sources_in edges number)) empty to) q h
        where
          nothing : (numbers : List ℕ) → AreAt Few numbers [] → (q : ℕ) → IsMember q numbers → ⊥
          nothing [] at q h = h
          nothing (p ∷ numbers) at q h = at

      no-members : (numbers : List ℕ) → ((q : ℕ) → IsMember q numbers → ⊥) → numbers ≡ []
      no-members [] free = refl
      no-members (q ∷ numbers) free = absurd (free q (inl refl))

      by : (node : Node) (number : ℕ) → Many node number → (b : Bool) → graph.live node ≡ b
          → AreAt Many (sources_in edges number) (linked_to graph node)
      by node number at true is =
          at-weaker Few Many (sources_in edges number) (linked_to graph node) (λ n q member. keeps n q)
          (linked.linked node number (stands-yet node number at is))
      by node number at false dead =
          subst (AreAt Many (sources_in edges number)) (sym (ap (λ b. cond b (graph.sources node) []) dead))
          (subst (λ numbers. AreAt Many numbers []) (sym (no-members (sources_in edges number) (none node number at dead))) tt)

  pub linked-fewer : IsClosed graph → AreLinked graph Many edges → AreLinked graph Few edges
  linked-fewer closed linked = record {
    linked = λ node number at.
        at-weaker Many Few (sources_in edges number) (linked_to graph node)
        (λ n q member there. let was = linked-live (graph.live node) (graph.sources node) n member in
        stands-yet n q there (at_member (IsLive graph) (graph.sources node) n (closed node was.0) was.1))
        (linked.linked node number (keeps node number at));
    placed = λ e h.
        let n = linked.placed e h in
        let s = source-of edges e.dependant e (IsMember-from_Contains edges e h) refl in
        let was = linked-of n.0 e.dependant n.1 e.source s in
        (n.0, stands-yet n.0 e.dependant n.1 was);
  }
    where
      -- a figure to which something is linked is live
      linked-of : (node : Node) (number : ℕ) → Many node number → (q : ℕ) → IsMember q (sources_in edges number)
          → graph.live node ≡ true
      linked-of node number at q h = by (graph.live node) refl
        where
          nothing : (numbers : List ℕ) → AreAt Many numbers [] → IsMember q numbers → ⊥
          nothing [] at h = h
          nothing (p ∷ numbers) at h = at

          by : (b : Bool) → graph.live node ≡ b → graph.live node ≡ true
          by true e = e
          by false e =
              absurd (nothing (sources_in edges number)
              (subst (AreAt Many (sources_in edges number)) (ap (λ b. cond b (graph.sources node) []) e)
              (linked.linked node number at)) h)
