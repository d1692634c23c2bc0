-- What follows of a graph that was edited: what is reached, and what is not.
use Rattle.std.proofs.Common.{◌≡◌, ◌||◌, ℕ, zero, suc, true, cond, List, [], length, Contains, ap, subst, ◌∙◌}
use Rattle.std.specs.List.{AllByRecursion}
use Rattle.scr_funds.proofs.Members.{IsMember, IsMember-from_Contains, Contains-from_IsMember, at_member}
use Rattle.scr_links.specs.Edges.{Edge}
use Rattle.scr_reachability.specs.Dues.{EndsIn, IsSchedule}
use Rattle.scr_reachability.specs.Reached.{IsReached}
use Rattle.scr_reachability.specs.declared.ranks.Due.{Due}
use Rattle.scr_reachability.specs.LinkedDues.{AreDues, AreEdited, AreReachedLive, IsDue, IsLiveAt}
use Rattle.scr_reachability.specs.Graph.{EndsWithin, Graph, IsClosed, IsLive}
use Rattle.scr_reachability.specs.Leading.{IsAtStart, IsCountOf, IsInReach}
use Rattle.scr_reachability.specs.Linked.{AreAt, AreNumbers, linked_to, sources_in}
use Rattle.scr_reachability.proofs.Counting.{counted}
use Rattle.scr_reachability.proofs.Placed.{standing}
use Rattle.scr_reachability.proofs.LinkedReaching.{IsMarked, leads-marked, marked-leads, or-right, unmarked-closed}
use Rattle.scr_reachability.proofs.LinkedReaching.{reached-live as live-reached}

module _ {Node : Type 0} (after : Graph Node) (closed : IsClosed after) (At : Node → ℕ → Type 0) (size : ℕ) (edges : List Edge)
    (starts : List ℕ) (edited : AreEdited after At size edges starts) where
  -- a live figure stands at a number that is reached, unless it is a start
  pub reached-live : (p : ℕ) → IsReached edges starts p → (Contains starts p → ⊥) → IsLiveAt after At p
  reached-live = live-reached edited.before after closed At size edited.numbers edges edited.linked starts edited.same

  -- what stands at none of the starts is as it was
  pub elsewhere-same : (n : Node) (p : ℕ) → At n p → (Contains starts p → ⊥) → (edited.before.live n || after.live n) ≡ true
      → (edited.before.live n ≡ after.live n) × (edited.before.sources n ≡ after.sources n)
  elsewhere-same n p at none =
      edited.same n (λ h. none (subst (Contains starts) (edited.numbers.only n h.0 p h.1 at) h.2))

  -- what is linked to a figure at no start are its sources
  pub sources-linked : (p : ℕ) (n : Node) → At n p → after.live n ≡ true → (Contains starts p → ⊥)
      → AreAt At (sources_in edges p) (after.sources n)
  sources-linked p n at live none =
      let kept = elsewhere-same n p at none (or-right (edited.before.live n) (after.live n) live) in
      let same : linked_to edited.before n ≡ after.sources n =
      ap (λ b. cond b (edited.before.sources n) []) (kept.0 ∙ live) ∙ kept.1 in
      subst (AreAt At (sources_in edges p)) same (edited.linked.linked n p at)

  module _ (numbers : List ℕ) (reached : AreReachedLive after At edges starts numbers) where
    -- as many live figures are reached as lead to a start
    pub reach-counted : IsCountOf (IsInReach after (IsAtStart At starts)) (length numbers)
    reach-counted =
        counted At size after edited.numbers (IsInReach after (IsAtStart At starts)) numbers reached.once each all
      where
        each : (p : ℕ) → IsMember p numbers → (n : Node) × At n p × IsInReach after (IsAtStart At starts) n
        each p h =
            let has = reached.each p (Contains-from_IsMember numbers p h) in
            let live = has.1 in (
              live.0,
              live.1,
              record {
                live = live.2;
                leads = marked-leads edited.before after closed At size edited.numbers edges edited.linked starts edited.same p has.0
                    live.0 live.1;
              },
            )

        all : (n : Node) → IsInReach after (IsAtStart At starts) n → (p : ℕ) × At n p × IsMember p numbers
        all n reach =
            let marked = leads-marked edited.before after closed At size edited.numbers edges edited.linked starts edited.same n
            reach.leads reach.live in (
              marked.0,
              marked.1,
              IsMember-from_Contains numbers marked.0 (reached.all marked.0 marked.2 (n, marked.1, reach.live)),
            )

    -- a live figure that is not reached
    abbrev pub IsLeft : Node → Type 0
    IsLeft n =
        (after.live n ≡ true)
        × (IsMarked edited.before after closed At size edited.numbers edges edited.linked starts edited.same n → ⊥)

    pub left-from : (p : ℕ) (n : Node) → At n p → after.live n ≡ true → (Contains numbers p → ⊥) → IsLeft n
    left-from p n at live none = (
      live,
      λ marked. none (reached.all p
          (subst (IsReached edges starts) (edited.numbers.only n marked.0 p marked.1 at) marked.2) (n, at, live)),
    )

    -- has only such sources
    pub left-closed : (n : Node) → IsLeft n → AllByRecursion IsLeft (after.sources n)
    left-closed =
        unmarked-closed edited.before after closed At size edited.numbers edges edited.linked starts edited.same

-- ---- dues in rounds

module _ {Node : Type 0} (graph : Graph Node) (At : Node → ℕ → Type 0) (size : ℕ)
    (numbers : AreNumbers graph At size) where
  -- no chain of dues is longer than one of sources
  chains-end : (dues : List Due) → AreDues graph At dues → (levels : ℕ) (n : Node) → EndsWithin graph levels n
      → (p : ℕ) → At n p → EndsIn dues levels p
  unfolding EndsIn
  chains-end dues are zero n ends p at = absurd ends
  chains-end dues are (suc levels) n ends p at = λ due has number source named.
      let is = at_member (IsDue graph At) dues due are.each (IsMember-from_Contains dues due has) in
      let one : is.node ≡ n = numbers.exact p is.node n (subst (At is.node) number is.at) at in
      let s = standing At due.sources.items (graph.sources is.node) is.sources source
      (IsMember-from_Contains due.sources.items source named) in
      chains-end dues are levels s.0
      (at_member (EndsWithin graph levels) (graph.sources n) s.0 ends (subst (λ x. IsMember s.0 (graph.sources x)) one s.1))
      source s.2

  pub scheduled : (levels : ℕ) → ((n : Node) → IsLive graph n → EndsWithin graph levels n) → (dues : List Due)
      → AreDues graph At dues → IsSchedule dues levels
  scheduled levels ends dues are = record {
    once = are.once;
    ends = λ due has.
        let is = at_member (IsDue graph At) dues due are.each (IsMember-from_Contains dues due has) in
        chains-end dues are levels is.node (ends is.node is.live) due.number is.at;
  }
