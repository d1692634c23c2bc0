-- Figures that are reckoned one after another, each after all that it is reckoned from.
use Rattle.std.proofs.Common.{◌≡◌, ◌⊎◌, inl, inr, ℕ, zero, suc, ◌+◌, ◌<◌, ◌≤◌, true, false, nat_eq, List, [], ◌∷◌, drop, length, Option, Some, None, slice_get, Contains, refl, sym, ap, subst, ◌∙◌, arith}
use Rattle.std.specs.List.{AllByRecursion}
use Rattle.std.specs.Option.{option_map}
use Rattle.std.proofs.lemmas.Bool.{cases_Bool, cases_lt, eq-eqb, eqb-true}
use Rattle.std.proofs.lemmas.List.{drop_all, drop_more}
use Rattle.std.proofs.lemmas.Option.{get_or_from_slice_get, slice_get_within}
use Rattle.scr_funds.proofs.Members.{IsMember, IsMember-from_Contains, Contains-from_IsMember, at_member, each-from_members}
use Rattle.scr_reachability.specs.LinkedDues.{IsLiveAt}
use Rattle.scr_reachability.specs.Graph.{Graph, IsLive}
use Rattle.scr_reachability.specs.Linked.{AreAt}
use Rattle.scr_reachability.proofs.Placed.{get-contains}
use Rattle.scr_tree.specs.Figures.{AreKnownOf, AreSettled, HasFigure, HaveFigures, Reckoning, worth_of}
use Rattle.scr_tree.specs.Order.{IsOrder, start_of}
use Rattle.scr_tree.specs.Ready.{AreInTurn, IsNoneOf, IsReady, IsRight, IsUp}
use Rattle.scr_partial_sums.specs.declared.figure.Figure.{Figure}
use Rattle.scr_tree.proofs.Known.{known-have, known-put, known-weaker}

-- ---- places in a list

pub place-from : (xs : List ℕ) (k m : ℕ) → IsMember m (drop k xs) → (i : ℕ) × (k ≤ i) × (slice_get xs i ≡ Some m)
place-from [] zero m h = absurd h
place-from [] (suc k) m h = absurd h
place-from (x ∷ xs) zero m (inl e) = (0, omega arith, ap Some (sym e))
place-from (x ∷ xs) zero m (inr h) = let r = place-from xs zero m h in (suc r.0, omega arith, r.2)
place-from (x ∷ xs) (suc k) m h =
    let r = place-from xs k m h in let l : k ≤ r.0 = r.1 in (suc r.0, omega (arith, l), r.2)

pub drop-next : (xs : List ℕ) (k x : ℕ) → slice_get xs k ≡ Some x → drop k xs ≡ x ∷ drop (k + 1) xs
drop-next xs k x is =
    drop_more xs k x (slice_get_within xs k x is)
    ∙ ap (λ y. y ∷ drop (k + 1) xs) (get_or_from_slice_get xs k x x is)

-- ---- an order, one after another

-- where a place stands among slices
slice-of : (ends : List ℕ) (j k : ℕ) → j ≤ length ends → k < start_of ends j
    → (i : ℕ) × (i < length ends) × (start_of ends i ≤ k) × (k < start_of ends (suc i))
slice-of ends zero k l low = absurd (omega (arith, low))
slice-of ends (suc j) k l low = by (cases_lt k (start_of ends j)) (slice-of ends j k (omega (arith, l)))
  where
    by : (k < start_of ends j) ⊎ (start_of ends j ≤ k)
        → (k < start_of ends j → (i : ℕ) × (i < length ends) × (start_of ends i ≤ k) × (k < start_of ends (suc i)))
        → (i : ℕ) × (i < length ends) × (start_of ends i ≤ k) × (k < start_of ends (suc i))
    by (inl below) further = further below
    by (inr from) further = (j, omega (arith, l), from, low)

pub in-turn : {Node : Type 0} (graph : Graph Node) (At : Node → ℕ → Type 0) (reached numbers ends : List ℕ)
    → IsOrder graph At reached numbers ends → AreInTurn graph At numbers
in-turn graph At reached numbers ends order = record {
  once = order.once;
  each = λ number h. (order.each number h).1;
  before = λ k i number source_number node source here at has there before.
      let low = slice_get_within numbers k number here in
      let all = order.whole in
      let s = slice-of ends (length ends) k (omega arith) (omega (arith, low, all)) in
      let first = order.after s.0 k i number source_number node source s.1 s.2 s.3 here at has there before in
      let from = s.2 in
      omega (arith, first, from);
}

-- ---- figures known and reckoned

module _ {Node : Type 0} (reckoning : Reckoning Node) (At : Node → ℕ → Type 0) (size : ℕ)
    (up : IsUp reckoning.graph At size) where
  abbrev Known : List Figure → List ℕ → Type 0
  Known figures numbers = AreKnownOf reckoning At figures (IsNoneOf At numbers)

  -- the figure of a number whose sources stand before the numbers that are left can be reckoned
  pub ready : (figures : List Figure) (numbers : List ℕ) (from number : ℕ) (node : Node) → At node number
      → reckoning.graph.live node ≡ true
      → ((i source_number : ℕ) (source : Node) → Contains (reckoning.graph.sources node) source → At source source_number
      → slice_get numbers i ≡ Some source_number → i < from)
      → Known figures (drop from numbers) → IsReady reckoning At figures number
  ready figures numbers from number node at live before known = record {
    node = node;
    at = at;
    live = live;
    sources = λ list there. known-have reckoning At figures (IsNoneOf At (drop from numbers)) known list
        (reckoning.graph.sources node) there
        (each-from_members (λ s. (reckoning.graph.live s ≡ true) × IsNoneOf At (drop from numbers) s) (reckoning.graph.sources node) done);
  }
    where
      done : (s : Node) → IsMember s (reckoning.graph.sources node)
          → (reckoning.graph.live s ≡ true) × IsNoneOf At (drop from numbers) s
      done s h = (
        at_member (IsLive reckoning.graph) (reckoning.graph.sources node) s (up.closed node live) h,
        λ m there left.
            let i = place-from numbers from m (IsMember-from_Contains (drop from numbers) m left) in
            let low = before i.0 m s (Contains-from_IsMember (reckoning.graph.sources node) s h) there i.2 in
            let high = i.1 in
            let no : ⊥ = omega (arith, low, high) in no,
      )

  -- of the number at a place of those in turn
  pub ready-next : (figures : List Figure) (numbers : List ℕ) (k number : ℕ) → AreInTurn reckoning.graph At numbers
      → slice_get numbers k ≡ Some number → Known figures (drop k numbers) → IsReady reckoning At figures number
  ready-next figures numbers k number turn here known =
      let live = turn.each number (get-contains numbers k number here) in
      ready figures numbers k number live.0 live.1 live.2
      (λ i source_number source has there before. turn.before k i number source_number live.0 source here live.1 has there before)
      known

  -- the figures of its sources are there
  pub have-within : (figures : List Figure) (numbers : List ℕ) (nodes : List Node) → HaveFigures reckoning figures numbers nodes
      → AllByRecursion (λ number. number < length figures) numbers
  have-within figures [] [] have = tt
  have-within figures [] (m ∷ nodes) have = absurd have
  have-within figures (n ∷ numbers) [] have = absurd have
  have-within figures (n ∷ numbers) (m ∷ nodes) have =
      (there (slice_get figures n) refl have.0, have-within figures numbers nodes have.1)
    where
      there : (found : Option Figure) → slice_get figures n ≡ found → HasFigure reckoning figures n m → n < length figures
      there None e has =
          let clash : None ≡ Some (reckoning.worth m) = sym (ap (option_map worth_of) e) ∙ has in absurd (cc)
      there (Some figure) e has = slice_get_within figures n figure e

  pub ready-within : (figures : List Figure) (number : ℕ) → IsReady reckoning At figures number
      → (list : List ℕ) → ((node : Node) → At node number → AreAt At list (reckoning.graph.sources node))
      → AllByRecursion (λ source. source < length figures) list
  ready-within figures number is list at =
      have-within figures list (reckoning.graph.sources is.node) (is.sources list (at is.node is.at))

  -- once the right figure is written at the next number, one figure more is known
  pub known-next : (numbers : List ℕ) (k number : ℕ) (figure : Figure) (old now : List Figure) → AreInTurn reckoning.graph At numbers
      → slice_get numbers k ≡ Some number → IsRight reckoning At number figure
      → slice_get now number ≡ Some figure
      → ((other : ℕ) → (other ≡ number → ⊥) → slice_get now other ≡ slice_get old other)
      → Known old (drop k numbers) → Known now (drop (k + 1) numbers)
  known-next numbers k number figure old now turn here right there others known =
      known-weaker reckoning At now (λ n. IsNoneOf At (drop k numbers) n ⊎ (n ≡ live.0)) (IsNoneOf At (drop (k + 1) numbers))
      left
      (known-put reckoning At size up.numbers old now (IsNoneOf At (drop k numbers)) live.0 number known
      (record { at = live.1; there = ap (option_map worth_of) there ∙ ap Some (right live.0 live.1); others = others }))
    where
      live : IsLiveAt reckoning.graph At number
      live = turn.each number (get-contains numbers k number here)

      next : drop k numbers ≡ number ∷ drop (k + 1) numbers
      next = drop-next numbers k number here

      left : (n : Node) → reckoning.graph.live n ≡ true → IsNoneOf At (drop (k + 1) numbers) n
          → IsNoneOf At (drop k numbers) n ⊎ (n ≡ live.0)
      left n is none = by (eq-or own.0 number)
        where
          own : (m : ℕ) × At n m
          own = up.numbers.live n is

          eq-or : (a b : ℕ) → (a ≡ b) ⊎ (a ≡ b → ⊥)
          eq-or a b = elim (cases_Bool (nat_eq a b)) [
            | inl e ↦ inl (eqb-true a b e)
            | inr e ↦ inr (λ same. let clash : true ≡ false = sym (eq-eqb a b same) ∙ e in absurd (cc))
          ]

          none-yet : (own.0 ≡ number → ⊥) → (m : ℕ) → At n m → IsMember m (drop k numbers) → ⊥
          none-yet other m at h = still (subst (IsMember m) next h)
            where
              still : IsMember m (number ∷ drop (k + 1) numbers) → ⊥
              still (inl e) = other (up.numbers.only n own.0 m own.1 at ∙ e)
              still (inr rest) = none m at (Contains-from_IsMember (drop (k + 1) numbers) m rest)

          by : (own.0 ≡ number) ⊎ (own.0 ≡ number → ⊥) → IsNoneOf At (drop k numbers) n ⊎ (n ≡ live.0)
          by (inl e) = inr (up.numbers.exact number n live.0 (subst (At n) e own.1) live.1)
          by (inr other) = inl (λ m at has. none-yet other m at (IsMember-from_Contains (drop k numbers) m has))

  -- once none is left all are known
  pub settled-all : (figures : List Figure) (numbers : List ℕ) (k : ℕ) → length numbers ≤ k → Known figures (drop k numbers)
      → AreSettled reckoning At figures
  settled-all figures numbers k end known =
      known-weaker reckoning At figures (IsNoneOf At (drop k numbers)) (λ n. Unit {0})
      (λ n live any m at has. IsMember-from_Contains [] m (subst (λ xs. Contains xs m) (drop_all k numbers end) has)) known
