-- A rank falls along each edge, and so along each chain.
use Rattle.std.proofs.Common.{◌≡◌, ◌⊎◌, ℕ, zero, suc, ◌^◌, ◌<◌, ◌≤◌, All, Bool, true, false, not, nat_eq, if◌then◌else◌, List, Vec, [], ◌∷◌, ◌++◌, unwrap_or, length, get_or, set, Contains, refl, sym, ap, subst, ◌∙◌, inl, inr, arith}
use Rattle.std.specs.Global.{Global}
use Rattle.std.specs.Map.{lookup}
use Rattle.std.proofs.lemmas.Bool.{cases_eq, ne_eqb}
use Rattle.std.proofs.lemmas.List.{get_or-set_other, get_or-set_same, length-set}
use Rattle.std.proofs.lemmas.List.Elements.{All-contains, Contains-push}
use Rattle.scr_funds.specs.Chains.{IsChain, LeadsTo}
use Rattle.scr_funds.specs.Components.{Components, components_of, components_with, number_above, size_of, with_components}
use Rattle.scr_funds.specs.Inside.{IsMarkedOrder, IsRankedOrder}
use Rattle.scr_funds.specs.Marks.{KeepsMarks}
use Rattle.scr_funds.specs.Ranks.{AreRanked, AreWithin, HavePlaces, rank_now, rank_of}
use Rattle.scr_funds.specs.Search.{goes_on, rows_of}
use Rattle.scr_funds.proofs.Cycles.{leads_before}
use Rattle.scr_funds.proofs.Marks.{marks_longer, marks_none, marks_removed}
use Rattle.scr_funds.proofs.Members.{All-from_members, Contains-from_IsMember, IsMember-from_Contains, IsMember-left}
use Rattle.scr_funds.proofs.Rows.{above_members, removed_or_same, with-other, with-own, with-same}

-- ---- along a chain

module _ (components : ℕ → List ℕ) (rank : ℕ → ℕ) (ranked : AreRanked components rank) where
  pub falls : (a : ℕ) (between : List ℕ) (b : ℕ) → IsChain components a between b → rank b < rank a
  falls a [] b h = ranked a b h
  falls a (c ∷ cs) b h =
      let first : rank c < rank a = ranked a c h.0 in
      let rest : rank b < rank c = falls c cs b h.1 in
      omega (arith, first, rest)

-- what leads to a fund has components
some_component : (components : ℕ → List ℕ) (a b : ℕ) → LeadsTo components a b
    → not (nat_eq (length (components a)) 0) ≡ true
some_component components a b (between, chain) = by (components a) refl between chain
  where
    none : (c : ℕ) → Contains (components a) c → components a ≡ [] → ⊥
    none c h e = IsMember-from_Contains [] c (subst (λ row. Contains row c) e h)

    by : (row : List ℕ) → components a ≡ row → (between : List ℕ) → IsChain components a between b
        → not (nat_eq (length (components a)) 0) ≡ true
    by [] e [] h = absurd (none b h e)
    by [] e (c ∷ cs) h = absurd (none c h.0 e)
    by (x ∷ row) e cs h = ap (λ r. not (nat_eq (length r) 0)) e ∙ ap not (ne_eqb (length (x ∷ row)) 0 (omega arith))

-- where the ranks are in order what leads to a fund is above it, so the search goes on from there
search_goes_on : (components : ℕ → List ℕ) (rank : ℕ → ℕ) (are_ranked : Bool) (to fund : ℕ)
    → LeadsTo components fund to → (are_ranked ≡ true → rank to < rank fund)
    → goes_on components rank are_ranked to fund ≡ true
search_goes_on components rank are_ranked to fund leads above = by are_ranked above
  where
    some : not (nat_eq (length (components fund)) 0) ≡ true
    some = some_component components fund to leads

    by : (b : Bool) → (b ≡ true → rank to < rank fund) → goes_on components rank b to fund ≡ true
    by true h = let l : rank to < rank fund = h refl in grind (arith, some, l)
    by false h = grind (arith, some)

module _ (from : ℕ) (members : List ℕ) (all : Components) (rank : ℕ → ℕ) (are_ranked : Bool)
    (ranked : are_ranked ≡ true → AreRanked (components_of all) rank) where
  -- chains back to the fund itself, whatever it holds
  pub goes_on-back : (fund : ℕ) → ¬ (fund ≡ from) → LeadsTo (components_with from members all) fund from
      → goes_on (components_with from members all) rank are_ranked from fund ≡ true
  goes_on-back fund apart leads = search_goes_on (components_with from members all) rank are_ranked from fund leads
      (λ on. above on (leads_before (components_of all) (components_with from members all) from (λ x. cases_eq x from)
      (with-other from members all) fund leads.0 leads.1))
    where
      above : are_ranked ≡ true → (fund ≡ from) ⊎ LeadsTo (components_of all) fund from → rank from < rank fund
      above on (inl e) = absurd (apart e)
      above on (inr old) = falls (components_of all) rank (ranked on) fund old.0 from old.1

  -- chains to any fund, where the fund has its own components
  pub goes_on-own : members ≡ components_of all from → (to fund : ℕ)
      → LeadsTo (components_with from members all) fund to
      → goes_on (components_with from members all) rank are_ranked to fund ≡ true
  goes_on-own own to fund leads = search_goes_on (components_with from members all) rank are_ranked to fund leads
      (λ on. let old = subst (λ next. LeadsTo next fund to) (with-same from members all own) leads in
      falls (components_of all) rank (ranked on) fund old.0 to old.1)

-- ---- ranks that are given

-- ranks that are the same function
pub ranked-same : (components : ℕ → List ℕ) (rank other : ℕ → ℕ) → ((fund : ℕ) → other fund ≡ rank fund)
    → AreRanked components rank → AreRanked components other
ranked-same components rank other same h holder component k =
    let l : rank component < rank holder = h holder component k in
    let a = same holder in
    let b = same component in
    omega (arith, l, a, b)

-- the last of the new ranks is written: what is left gives the same ranks
lookup-push : (es : List (ℕ × ℕ)) (k v q other : ℕ)
    → unwrap_or (lookup (nat_eq q) (es ++ (k, v) ∷ [])) other
    ≡ unwrap_or (lookup (nat_eq q) es) (if nat_eq q k then v else other)
lookup-push [] k v q other = grind arith
lookup-push (e ∷ es) k v q other = let rest = lookup-push es k v q other in grind (arith, rest)

pub rank_now-written : (ranks : List ℕ) (es : List (ℕ × ℕ)) (k v fund : ℕ) → k < length ranks
    → rank_now (set ranks k v) es fund ≡ rank_now ranks (es ++ (k, v) ∷ []) fund
rank_now-written ranks es k v fund l =
    ap (unwrap_or (lookup (nat_eq fund) es)) (by (cases_eq fund k))
    ∙ sym (lookup-push es k v fund (rank_of ranks fund))
  where
    by : (fund ≡ k) ⊎ (fund ≡ k → ⊥) → rank_of (set ranks k v) fund ≡ (if nat_eq fund k then v else rank_of ranks fund)
    by (inl e) =
        let own : rank_of (set ranks k v) fund ≡ v = ap (rank_of (set ranks k v)) e ∙ get_or-set_same ranks k v (2 ^ 63) l in
        grind (arith, own, e)
    by (inr n) =
        let other : rank_of (set ranks k v) fund ≡ rank_of ranks fund = get_or-set_other ranks k fund v (2 ^ 63) n in
        grind (arith, other, n)

-- ---- an order with its ranks

module _ (all : Components) (ranks : List ℕ) (ranked : AreRanked (components_of all) (rank_of ranks)) where
  pub ranked_removed : (from : ℕ) → AreRanked (components_of (with_components from [] all)) (rank_of ranks)
  ranked_removed from holder component h = by (removed_or_same from all holder)
    where
      by : (components_of (with_components from [] all) holder ≡ [])
          ⊎ (components_of (with_components from [] all) holder ≡ components_of all holder)
          → rank_of ranks component < rank_of ranks holder
      by (inl none) = absurd (IsMember-from_Contains [] component (subst (λ row. Contains row component) none h))
      by (inr same) = ranked holder component (subst (λ row. Contains row component) same h)

  pub ranked_put_back : (from : ℕ) (edges : List ℕ) → All (λ c. rank_of ranks c < rank_of ranks from) edges
      → (components_of (with_components from edges all) from ≡ edges)
      → AreRanked (components_of (with_components from edges all)) (rank_of ranks)
  ranked_put_back from edges above own holder component h = by (cases_eq holder from)
    where
      by : (holder ≡ from) ⊎ (holder ≡ from → ⊥) → rank_of ranks component < rank_of ranks holder
      by (inl e) = subst (λ f. rank_of ranks component < rank_of ranks f) (sym e)
          (All-contains (λ c. rank_of ranks c < rank_of ranks from) edges component above
          (subst (λ row. Contains row component) (ap (components_of (with_components from edges all)) e ∙ own) h))
      by (inr n) = ranked holder component
          (subst (λ row. Contains row component) (get_or-set_other all from holder edges [] n) h)

-- ---- an order with its ranks

pub marks_of : (all : Components) (marks : List Bool) (ranks : List ℕ) (are_ranked : Bool)
    → IsRankedOrder all marks ranks are_ranked → IsMarkedOrder all marks
marks_of all marks ranks are_ranked h = record { order = h.order; marked = h.marked; long = h.long }

-- marks and ranks together
pub both : (all : Components) (marks : List Bool) (ranks : List ℕ) (are_ranked : Bool) → IsMarkedOrder all marks
    → (are_ranked ≡ true → AreRanked (components_of all) (rank_of ranks)) → size_of all ≤ length ranks
    → IsRankedOrder all marks ranks are_ranked
both all marks ranks are_ranked h ranked places =
    record { order = h.order; marked = h.marked; long = h.long; ranked = ranked; places = places }

pub order_ranked-none : (marks : List Bool) (ranks : List ℕ) (are_ranked : Bool) → IsRankedOrder [] marks ranks are_ranked
order_ranked-none marks ranks are_ranked = both [] marks ranks are_ranked (marks_none marks)
    (λ on holder component h. absurd (IsMember-from_Contains [] component h)) (omega arith)

module _ (all : Components) (marks : List Bool) (ranks : List ℕ) (are_ranked : Bool)
    (h : IsRankedOrder all marks ranks are_ranked) where
  pub order_ranked-grown : (more : List Bool) → KeepsMarks marks more → length marks ≤ length more
      → (other : List ℕ) → ((fund : ℕ) → rank_of other fund ≡ rank_of ranks fund) → length ranks ≤ length other
      → IsRankedOrder all more other are_ranked
  order_ranked-grown more keeps longer other same wider =
      both all more other are_ranked
      (marks_longer all marks (marks_of all marks ranks are_ranked h) more keeps longer)
      (λ on. ranked-same (components_of all) (rank_of ranks) (rank_of other) same (h.ranked on))
      (let places = h.places in omega arith)

  pub order_ranked-removed : (from : ℕ) → IsRankedOrder (with_components from [] all) marks ranks are_ranked
  order_ranked-removed from =
      both (with_components from [] all) marks ranks are_ranked
      (marks_removed all marks (marks_of all marks ranks are_ranked h) from)
      (λ on. ranked_removed all ranks (h.ranked on) from)
      (let places = h.places in omega (arith, length-set all from []))

  -- each component of each fund has a place for its rank, where a fund gets others
  pub within_ranks : (from : ℕ) (members : List ℕ) → number_above from members ≤ length ranks
      → AreWithin ranks (components_with from members all)
  within_ranks from members above holder component m = by (cases_eq holder from)
    where
      by : (holder ≡ from) ⊎ (holder ≡ from → ⊥) → component < length ranks
      by (inl e) =
          let most = above_members from members component (IsMember-from_Contains members component
          (subst (λ row. Contains row component) (ap (components_with from members all) e ∙ with-own from members all) m))
          in omega (arith, most, above)
      by (inr n) =
          let ends = All-contains (λ c. (holder < size_of all) × (c < size_of all)) (components_of all holder) component
          (h.order.below holder)
          (subst (λ row. Contains row component) (with-other from members all holder n) m) in
          let below : component < size_of all = ends.1 in
          let places = h.places in
          omega (arith, below, places)

-- rows and ranks as they are lent
pub ranked-lent : (rows lent : List (Vec ℕ Global)) (ranks other : List ℕ) (are_ranked : Bool) → lent ≡ rows
    → other ≡ ranks → (are_ranked ≡ true → AreRanked (components_of (rows_of rows)) (rank_of ranks))
    → are_ranked ≡ true → AreRanked (components_of (rows_of lent)) (rank_of other)
ranked-lent rows lent ranks other are_ranked e f h on =
    subst (λ rs. AreRanked (components_of (rows_of rs)) (rank_of other)) (sym e)
    (subst (λ rs. AreRanked (components_of (rows_of rows)) (rank_of rs)) (sym f) (h on))

-- the row at a place
pub row_at : (rows : List (Vec ℕ Global)) (i : ℕ) (row : Vec ℕ Global) → i < length rows → row ≡ get_or rows i row
    → components_of (rows_of rows) i ≡ row.items
row_at [] i row l e = absurd (omega arith)
row_at (r ∷ rs) zero row l e = ap (λ v. v.items) (sym e)
row_at (r ∷ rs) (suc i) row l e = row_at rs i row (omega arith) e

-- the last of the new ranks has a place, and so have those before it
pub last_placed : (ranks : List ℕ) (es : List (ℕ × ℕ)) (k v : ℕ) → HavePlaces ranks (es ++ (k, v) ∷ [])
    → k < length ranks
last_placed ranks es k v h =
    All-contains (λ e. e.0 < length ranks) (es ++ (k, v) ∷ []) (k, v) h (Contains-push es (k, v))

pub front_placed : (ranks : List ℕ) (es : List (ℕ × ℕ)) (k v : ℕ) → HavePlaces ranks (es ++ (k, v) ∷ [])
    → HavePlaces (set ranks k v) es
front_placed ranks es k v h =
    subst (λ n. All (λ e. e.0 < n) es) (sym (length-set ranks k v))
    (All-from_members (λ e. e.0 < length ranks) es
    (λ e m. All-contains (λ p. p.0 < length ranks) (es ++ (k, v) ∷ []) e h
    (Contains-from_IsMember (es ++ (k, v) ∷ []) e (IsMember-left es ((k, v) ∷ []) e m))))
