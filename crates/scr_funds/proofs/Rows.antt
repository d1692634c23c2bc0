-- The components of all funds, as rows that are put in and taken off.
use Rattle.std.proofs.Common.{◌≡◌, ◌≢◌, ◌⊎◌, ◌↔◌, ℕ, ◌+◌, ◌-◌, ◌<◌, ◌≤◌, max, nat_eq, if◌then◌else◌, List, [], ◌∷◌, ◌++◌, length, replicate, fold, Contains, refl, sym, ap, subst, ◌∙◌, inl, inr, arith}
use Rattle.std.proofs.lemmas.Bool.{cases_lt, cases_eq, eq-eqb}
use Rattle.std.proofs.lemmas.List.{get_or-set_same, get_or-set_other, get_or_append_left, get_or-append_right, get_or_past, length-append, length-replicate, length-set, set-set, set-get_or, get_or-replicate, set_past}
use Rattle.scr_funds.specs.Chains.{IsChain, LeadsTo, IsAcyclic}
use Rattle.std.proofs.lemmas.List.Elements.{All-nil, All-weaker}
use Rattle.scr_funds.specs.Components.{AreBelow, IsOrder, Components, components_of, components_with, with_components, with_edges, grown, number_above, size_of}
use Rattle.scr_funds.proofs.Members.{IsMember, IsMember-from_Contains, All-from_members}
use Rattle.scr_funds.proofs.Cycles.{acyclic_weaker, acyclic_still, chain_weaker, leads_before}

-- ---- what one fund has

-- a fund past the end has no components
components_of-replicate : (n fund : ℕ) → components_of (replicate n []) fund ≡ []
components_of-replicate n fund = by (cases_lt fund n)
  where
    none : List ℕ
    none = []

    by : (fund < n) ⊎ (n ≤ fund) → components_of (replicate n none) fund ≡ none
    by (inl l) = get_or-replicate n fund none none l
    by (inr l) = let count : length (replicate n none) ≡ n = length-replicate n none in
        get_or_past (replicate n none) fund none (omega arith)

-- places that are new have none
pub components_of-grown : (size : ℕ) (all : Components) (fund : ℕ)
    → components_of (grown size all) fund ≡ components_of all fund
components_of-grown size all fund = by (cases_lt fund (length all))
  where
    rest : Components
    rest = replicate (size - length all) []

    by : (fund < length all) ⊎ (length all ≤ fund) → components_of (all ++ rest) fund ≡ components_of all fund
    by (inl l) = get_or_append_left all rest [] fund l
    by (inr l) = get_or-append_right all rest (length all) fund [] refl l
        ∙ components_of-replicate (size - length all) (fund - length all) ∙ sym (get_or_past all fund [] l)

pub size_of-grown : (size : ℕ) (all : Components) → size_of (grown size all) ≡ max size (size_of all)
size_of-grown size all = length-append all rest ∙ ap (λ n. length all + n) new ∙ most (length all)
  where
    none : List ℕ
    none = []

    rest : Components
    rest = replicate (size - length all) none

    new : length rest ≡ size - length all
    new = length-replicate (size - length all) none

    most : (n : ℕ) → n + (size - n) ≡ max size n
    most n = omega arith

module _ (from : ℕ) (members : List ℕ) (all : Components) where
  pub with-own : components_with from members all from ≡ members
  with-own = ap (λ b. if b then members else components_of all from) (eq-eqb from from refl)

  pub with-other : (fund : ℕ) → fund ≢ from → components_with from members all fund ≡ components_of all fund
  with-other fund other = grind (arith, other)

  pub components_of-with_components : from < size_of all → (fund : ℕ)
      → components_of (with_components from members all) fund ≡ components_with from members all fund
  components_of-with_components l fund =
      let own = get_or-set_same all from members [] l in
      let other = get_or-set_other all from fund members [] in
      grind (arith, own, other)

  -- a fund's own components put in once more
  pub with-same : members ≡ components_of all from → components_with from members all ≡ components_of all
  with-same e = λ i fund. at fund i
    where
      at : (fund : ℕ) → components_with from members all fund ≡ components_of all fund
      at fund = grind (arith, e)

  -- a fund without components would lead to itself exactly where one that it gets is the fund or leads back to it
  pub leads_back : components_of all from ≡ [] → LeadsTo (components_with from members all) from from
      → (member : ℕ) × Contains members member × ((member ≡ from) ⊎ LeadsTo (components_of all) member from)
  leads_back none (cs, chain) = by cs chain
    where
      next : ℕ → List ℕ
      next = components_with from members all

      by : (cs : List ℕ) → IsChain next from cs from
          → (member : ℕ) × Contains members member × ((member ≡ from) ⊎ LeadsTo (components_of all) member from)
      by [] h = (from, subst (λ row. Contains row from) with-own h, inl refl)
      by (c ∷ cs) h = (
        c,
        subst (λ row. Contains row c) with-own h.0,
        leads_before (components_of all) next from (λ x. cases_eq x from) with-other c cs h.1,
      )

  pub led_back : components_of all from ≡ []
      → ((member : ℕ) × Contains members member × ((member ≡ from) ⊎ LeadsTo (components_of all) member from))
      → LeadsTo (components_with from members all) from from
  led_back none (m, in', back) = by back
    where
      next : ℕ → List ℕ
      next = components_with from members all

      stays : (a c : ℕ) → Contains (components_of all a) c → Contains (next a) c
      stays a c h = each (cases_eq a from)
        where
          each : (a ≡ from) ⊎ (a ≡ from → ⊥) → Contains (next a) c
          each (inl e) =
              absurd (IsMember-from_Contains [] c (subst (λ row. Contains row c) (ap (components_of all) e ∙ none) h))
          each (inr n) = subst (λ row. Contains row c) (sym (with-other a n)) h

      first : Contains (next from) m
      first = subst (λ row. Contains row m) (sym with-own) in'

      by : (m ≡ from) ⊎ LeadsTo (components_of all) m from → LeadsTo next from from
      by (inl e) = ([], subst (Contains (next from)) e first)
      by (inr l) = (m ∷ l.0, (first, chain_weaker next (components_of all) stays m l.0 from l.1))

-- ---- edges added

-- the number is above the fund and each member
pub above_first : (fund : ℕ) (members : List ℕ) → fund ≤ fold max fund members
above_first fund [] = omega arith
above_first fund (m ∷ ms) = let later : max fund m ≤ fold max (max fund m) ms = above_first (max fund m) ms in
    omega arith

pub above_members : (fund : ℕ) (members : List ℕ) (m : ℕ) → IsMember m members → m ≤ fold max fund members
above_members fund [] m h = absurd h
above_members fund (x ∷ xs) m (inl e) = let later : max fund x ≤ fold max (max fund x) xs =
    above_first (max fund x) xs in omega arith
above_members fund (x ∷ xs) m (inr h) = above_members (max fund x) xs m h

module _ (from : ℕ) (members : List ℕ) (all : Components) where
  pub size_of-with_edges : size_of (with_edges from members all) ≡ max (number_above from members) (size_of all)
  size_of-with_edges = length-set (grown (number_above from members) all) from members
      ∙ size_of-grown (number_above from members) all

  pub components_of-with_edges : (fund : ℕ)
      → components_of (with_edges from members all) fund ≡ components_with from members all fund
  components_of-with_edges fund =
      let first : from ≤ fold max from members = above_first from members in
      let size : length (grown (number_above from members) all) ≡ max (fold max from members + 1) (length all) =
      size_of-grown (number_above from members) all in
      components_of-with_components from members (grown (number_above from members) all) (omega arith) fund
      ∙ ap (λ row. if nat_eq fund from then members else row) (components_of-grown (number_above from members) all fund)

  pub with_edges-is : components_of (with_edges from members all) ≡ components_with from members all
  with_edges-is = λ i fund. components_of-with_edges fund i

  -- the fund would lead to itself exactly where one of the members is the fund or leads back to it
  pub cycle_by_members : components_of all from ≡ [] → (LeadsTo (components_of (with_edges from members all)) from from)
      ↔ ((member : ℕ) × Contains members member × ((member ≡ from) ⊎ LeadsTo (components_of all) member from))
  cycle_by_members none = (
    λ h. leads_back from members all none (subst (λ next. LeadsTo next from from) with_edges-is h),
    λ h. subst (λ next. LeadsTo next from from) (sym with_edges-is) (led_back from members all none h),
  )

  pub order_added : IsOrder all → (LeadsTo (components_with from members all) from from → ⊥)
      → IsOrder (with_edges from members all)
  order_added h apart = record {
    acyclic = subst IsAcyclic (sym with_edges-is)
        (acyclic_still (components_of all) (components_with from members all) from (λ x. cases_eq x from)
        (with-other from members all) h.acyclic apart);
    below = λ fund. subst (AreBelow (size_of (with_edges from members all)) fund) (sym (components_of-with_edges fund))
        (below fund);
  }
    where
      size : size_of (with_edges from members all) ≡ max (fold max from members + 1) (length all)
      size = size_of-with_edges

      first : from ≤ fold max from members
      first = above_first from members

      own : AreBelow (size_of (with_edges from members all)) from members
      own = All-from_members
          (λ m. (from < size_of (with_edges from members all)) × (m < size_of (with_edges from members all))) members
          (λ m k. let l : m ≤ fold max from members = above_members from members m k in
          (omega (arith, size, first), omega (arith, size)))

      old : (fund : ℕ) → AreBelow (size_of (with_edges from members all)) fund (components_of all fund)
      old fund = All-weaker (λ m. (fund < size_of all) × (m < size_of all))
          (λ m. (fund < size_of (with_edges from members all)) × (m < size_of (with_edges from members all)))
          (λ m k. let a : fund < length all = k.0 in let b : m < length all = k.1 in
          (omega (arith, size), omega (arith, size))) (components_of all fund) (h.below fund)

      below : (fund : ℕ) → AreBelow (size_of (with_edges from members all)) fund (components_with from members all fund)
      below fund = by (cases_eq fund from)
        where
          by : (fund ≡ from) ⊎ (fund ≡ from → ⊥) → AreBelow (size_of (with_edges from members all)) fund
              (components_with from members all fund)
          by (inl e) =
              subst (λ f. AreBelow (size_of (with_edges from members all)) f (components_with from members all f))
              (sym e) (subst (AreBelow (size_of (with_edges from members all)) from)
              (sym (with-own from members all)) own)
          by (inr n) = subst (AreBelow (size_of (with_edges from members all)) fund)
              (sym (with-other from members all fund n)) (old fund)

-- ---- edges taken off and put back

module _ (from : ℕ) (all : Components) where
  -- what is left was there
  pub removed_or_same : (fund : ℕ) → (components_of (with_components from [] all) fund ≡ [])
      ⊎ (components_of (with_components from [] all) fund ≡ components_of all fund)
  removed_or_same fund = by (cases_eq fund from) (cases_lt from (length all))
    where
      by : (fund ≡ from) ⊎ (fund ≡ from → ⊥) → (from < length all) ⊎ (length all ≤ from)
          → (components_of (with_components from [] all) fund ≡ [])
          ⊎ (components_of (with_components from [] all) fund ≡ components_of all fund)
      by (inl e) (inl l) = inl (ap (components_of (with_components from [] all)) e ∙ get_or-set_same all from [] [] l)
      by (inl e) (inr l) = inr (ap (λ rows. components_of rows fund) (set_past all from [] l))
      by (inr n) l = inr (get_or-set_other all from fund [] [] n)

  pub order_removed : IsOrder all → IsOrder (with_components from [] all)
  order_removed h = record {
    acyclic = acyclic_weaker (components_of all) (components_of (with_components from [] all)) left h.acyclic;
    below = λ fund. subst (λ size. AreBelow size fund (components_of (with_components from [] all) fund))
        (sym (length-set all from [])) (below fund (removed_or_same fund));
  }
    where
      left : (a c : ℕ) → Contains (components_of (with_components from [] all) a) c → Contains (components_of all a) c
      left a c k = by (removed_or_same a)
        where
          by : (components_of (with_components from [] all) a ≡ [])
              ⊎ (components_of (with_components from [] all) a ≡ components_of all a) → Contains (components_of all a) c
          by (inl e) = absurd (IsMember-from_Contains [] c (subst (λ row. Contains row c) e k))
          by (inr e) = subst (λ row. Contains row c) e k

      below : (fund : ℕ) → (components_of (with_components from [] all) fund ≡ [])
          ⊎ (components_of (with_components from [] all) fund ≡ components_of all fund)
          → AreBelow (size_of all) fund (components_of (with_components from [] all) fund)
      below fund (inl e) = subst (AreBelow (size_of all) fund) (sym e)
          (All-nil (λ m. (fund < size_of all) × (m < size_of all)))
      below fund (inr e) = subst (AreBelow (size_of all) fund) (sym e) (h.below fund)

  -- taken off and put back
  pub none_left : components_of (with_components from [] all) from ≡ []
  none_left = by (cases_lt from (length all))
    where
      by : (from < length all) ⊎ (length all ≤ from) → components_of (with_components from [] all) from ≡ []
      by (inl l) = get_or-set_same all from [] [] l
      by (inr l) = ap (λ rows. components_of rows from) (set_past all from [] l) ∙ get_or_past all from [] l

  pub put_back-removed : with_components from (components_of all from) (with_components from [] all) ≡ all
  put_back-removed = set-set all from [] (components_of all from) ∙ set-get_or all from []

module _ (from : ℕ) (edges : List ℕ) (all : Components) (below : AreBelow (size_of all) from edges) where
  -- the edges are there once they are put back
  pub edges_put_back : components_of (with_components from edges all) from ≡ edges
  edges_put_back = by edges below
    where
      by : (es : List ℕ) → AreBelow (size_of all) from es → components_of (with_components from es all) from ≡ es
      by [] b = none_left from all
      by (e ∷ es) b = get_or-set_same all from (e ∷ es) [] ((b 0 e (omega arith)).0)

  pub order_put_back : IsOrder all → IsAcyclic (components_of (with_components from edges all))
      → IsOrder (with_components from edges all)
  order_put_back h acyclic = record {
    acyclic = acyclic;
    below = λ fund. subst (λ size. AreBelow size fund (components_of (with_components from edges all) fund))
        (sym (length-set all from edges)) (each fund (cases_eq fund from));
  }
    where
      each : (fund : ℕ) → (fund ≡ from) ⊎ (fund ≡ from → ⊥)
          → AreBelow (size_of all) fund (components_of (with_components from edges all) fund)
      each fund (inl e) = subst (λ f. AreBelow (size_of all) f (components_of (with_components from edges all) f))
          (sym e) (subst (AreBelow (size_of all) from) (sym edges_put_back) below)
      each fund (inr n) = subst (AreBelow (size_of all) fund) (sym (get_or-set_other all from fund edges [] n))
          (h.below fund)

-- no fund at all
pub order_none : IsOrder []
order_none = record {
  acyclic = λ a chain. nowhere a chain.0 chain.1;
  below = λ fund. All-nil (λ m. (fund < 0) × (m < 0));
}
  where
    nowhere : (a : ℕ) (cs : List ℕ) → IsChain (components_of []) a cs a → ⊥
    nowhere a [] h = IsMember-from_Contains [] a h
    nowhere a (c ∷ cs) h = IsMember-from_Contains [] c h.0
