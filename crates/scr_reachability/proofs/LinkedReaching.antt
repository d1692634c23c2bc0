-- What is reached along the links as they were before an edit is what leads to a touched figure after it.
use Rattle.std.proofs.Common.{◌≡◌, ◌⊎◌, inl, inr, ◌||◌, ℕ, Bool, true, false, cond, List, [], Contains, refl, sym, subst, ◌∙◌}
use Rattle.std.specs.List.{AllByRecursion}
use Rattle.scr_funds.proofs.Members.{IsMember, IsMember-from_Contains, Contains-from_IsMember, at_member, each-from_members}
use Rattle.scr_links.specs.Edges.{Edge}
use Rattle.scr_reachability.specs.Reached.{IsReached}
use Rattle.scr_reachability.specs.Reached.IsReached.{begins, follows}
use Rattle.scr_reachability.specs.LinkedDues.{IsLiveAt}
use Rattle.scr_reachability.specs.Graph.{Graph, IsClosed, IsLive}
use Rattle.scr_reachability.specs.Leading.{IsAtStart, Leads, AreOthersSame}
use Rattle.scr_reachability.specs.Leading.Leads.{touched, above}
use Rattle.scr_reachability.specs.Linked.{AreLinked, AreNumbers, linked_to, sources_in}
use Rattle.scr_reachability.proofs.Placed.{placed, standing, edge-from, source-of, number-or}

-- a figure that has nothing linked to it is none, else these are its sources
pub linked-live : {Node : Type 0} (b : Bool) (sources : List Node) (s : Node) → IsMember s (cond b sources []) → (b ≡ true) × IsMember s sources
linked-live true sources s h = (refl, h)
linked-live false sources s h = absurd h

pub or-left : (a b : Bool) → a ≡ true → (a || b) ≡ true
or-left true b e = refl
or-left false b e = absurd (cc)

pub or-right : (a b : Bool) → b ≡ true → (a || b) ≡ true
or-right true b e = refl
or-right false b e = e

module _ {Node : Type 0} (before after : Graph Node) (closed : IsClosed after) (At : Node → ℕ → Type 0) (size : ℕ)
    (numbers : AreNumbers after At size) (edges : List Edge) (linked : AreLinked before At edges) (starts : List ℕ)
    (same : AreOthersSame before after At starts) where
  -- the number of the figure is reached
  abbrev pub IsMarked : Node → Type 0
  IsMarked n = (p : ℕ) × At n p × IsReached edges starts p

  -- the figure at a number is at a start, or not
  pub start-or : (p : ℕ) (n : Node) → At n p → IsAtStart At starts n ⊎ (IsAtStart At starts n → ⊥)
  start-or p n at = by (number-or starts p)
    where
      by : Contains starts p ⊎ (Contains starts p → ⊥) → IsAtStart At starts n ⊎ (IsAtStart At starts n → ⊥)
      by (inl h) = inl (p, at, h)
      by (inr none) = inr (λ h. none (subst (Contains starts) (numbers.only n h.0 p h.1 at) h.2))

  pub start-marked : (n : Node) → IsAtStart At starts n → IsMarked n
  start-marked n h = (h.0, h.1, begins h.0 h.2)

  -- a figure of which a source is marked is marked
  pub marked-above : (n s : Node) → after.live n ≡ true → IsMember s (after.sources n) → IsMarked s → IsMarked n
  marked-above n s live source marked = by (start-or own.0 n own.1)
    where
      own : (number : ℕ) × At n number
      own = numbers.live n live

      by : IsAtStart At starts n ⊎ (IsAtStart At starts n → ⊥) → IsMarked n
      by (inl h) = start-marked n h
      by (inr none) =
          let kept = same n none (or-right (before.live n) (after.live n) live) in
          let was : before.live n ≡ true = kept.0 ∙ live in
          let from : IsMember s (linked_to before n) =
          subst (λ b. IsMember s (cond b (before.sources n) [])) (sym was) (subst (IsMember s) (sym kept.1) source) in
          let q = placed At (sources_in edges own.0) (linked_to before n) (linked.linked n own.0 own.1) s from in
          let e = edge-from edges own.0 q.0 q.1 in
          let one : q.0 ≡ marked.0 = numbers.only s q.0 marked.0 q.2 marked.1 in (
            own.0,
            own.1,
            subst (IsReached edges starts) e.3
                (follows e.0 (Contains-from_IsMember edges e.0 e.1) (subst (IsReached edges starts) (sym (e.2 ∙ one)) marked.2)),
          )

  pub leads-marked : (n : Node) → Leads after (IsAtStart At starts) n → after.live n ≡ true → IsMarked n
  leads-marked _ (touched n h) live = start-marked n h
  leads-marked _ (above n s source rest) live =
      let member = IsMember-from_Contains (after.sources n) s source in
      marked-above n s live member
      (leads-marked s rest (at_member (IsLive after) (after.sources n) s (closed n live) member))

  -- from what an edge comes to a figure
  edge-source : (e : Edge) → Contains edges e → (n : Node) → At n e.dependant
      → (s : Node) × IsMember s (linked_to before n) × At s e.source
  edge-source e h n here =
      standing At (sources_in edges e.dependant) (linked_to before n) (linked.linked n e.dependant here) e.source
      (source-of edges e.dependant e (IsMember-from_Contains edges e h) refl)

  -- what is at a number that is reached leads to a figure at a start
  pub marked-leads : (p : ℕ) → IsReached edges starts p → (n : Node) → At n p → Leads after (IsAtStart At starts) n
  marked-leads _ (begins p h) n here = touched n (p, here, h)
  marked-leads _ (follows e h rest) n here =
      by (start-or e.dependant n here) (λ s at. marked-leads e.source rest s at)
    where
      by : IsAtStart At starts n ⊎ (IsAtStart At starts n → ⊥)
          → ((s : Node) → At s e.source → Leads after (IsAtStart At starts) s) → Leads after (IsAtStart At starts) n
      by (inl h) further = touched n h
      by (inr none) further =
          let s = edge-source e h n here in
          let was = linked-live (before.live n) (before.sources n) s.0 s.1 in
          let kept = same n none (or-left (before.live n) (after.live n) was.0) in
          above n s.0 (Contains-from_IsMember (after.sources n) s.0 (subst (IsMember s.0) kept.1 was.1))
          (further s.0 s.2)

  -- a live figure stands at a number that is reached, unless it is a start
  pub reached-live : (p : ℕ) → IsReached edges starts p → (Contains starts p → ⊥) → IsLiveAt after At p
  reached-live _ (begins p h) none = absurd (none h)
  reached-live _ (follows e h rest) none =
      let n = linked.placed e h in
      let s = edge-source e h n.0 n.1 in
      let was = linked-live (before.live n.0) (before.sources n.0) s.0 s.1 in
      let kept = same n.0 (λ start. none (subst (Contains starts) (numbers.only n.0 start.0 e.dependant start.1 n.1) start.2))
      (or-left (before.live n.0) (after.live n.0) was.0) in
      (n.0, n.1, sym kept.0 ∙ was.0)

  -- the live figures that are not marked have only such sources
  pub unmarked-closed : (n : Node) → (after.live n ≡ true) × (IsMarked n → ⊥)
      → AllByRecursion (λ s. (after.live s ≡ true) × (IsMarked s → ⊥)) (after.sources n)
  unmarked-closed n h =
      each-from_members (λ s. (after.live s ≡ true) × (IsMarked s → ⊥)) (after.sources n)
      (λ s member. (
        at_member (IsLive after) (after.sources n) s (closed n h.0) member,
        λ marked. h.1 (marked-above n s h.0 member marked),
      ))
