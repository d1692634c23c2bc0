-- The search goes on from whatever leads to the fund that is looked for: nothing else lies on a chain, so the first
-- shortest chain is the same.
use Rattle.std.proofs.Common.{◌≡◌, ◌⊎◌, ℕ, zero, suc, ◌+◌, ◌<◌, ◌≤◌, Bool, true, false, nat_eq, ◌||◌, List, [], ◌∷◌, filter, length, Contains, Some, None, cond, slice_get, refl, sym, ap, subst, ◌∙◌, inl, inr, arith}
use Rattle.std.proofs.lemmas.Bool.{true≢false, cases_eq, eq-eqb, eqb-true}
use Rattle.indexmap.specs.IndexMap.{insert_entry}
use Rattle.scr_funds.specs.Chains.{IsMetBefore, IsChain, LeadsTo, ComesEarlier, IsFirstShortest}
use Rattle.scr_funds.specs.Search.{entered, IsTraced}
use Rattle.scr_funds.proofs.Entries.{Noted, all_entered, noted_none, noted_found, noted_next, noted_all}
use Rattle.scr_funds.proofs.Members.{IsMember, IsMember-from_Contains, Contains-from_IsMember}
use Rattle.scr_funds.proofs.Trails.{onto}

-- ---- those of a list that pass a test

module _ {A : Type 0} (p : A → Bool) where
  passes_or_not : {P : Type 0} (x : A) → (p x ≡ true → P) → (p x ≡ false → P) → P
  passes_or_not {P} x pass fail = by (p x) refl
    where
      by : (b : Bool) → p x ≡ b → P
      by true e = pass e
      by false e = fail e

  filter-pass : (x : A) (xs : List A) → p x ≡ true → filter p (x ∷ xs) ≡ x ∷ filter p xs
  filter-pass x xs e = ap (λ b. cond b (x ∷ filter p xs) (filter p xs)) e

  filter-fail : (x : A) (xs : List A) → p x ≡ false → filter p (x ∷ xs) ≡ filter p xs
  filter-fail x xs e = ap (λ b. cond b (x ∷ filter p xs) (filter p xs)) e

  -- what passes and is in the list is in the rest
  member-passing : (xs : List A) (c : A) → IsMember c xs → p c ≡ true → IsMember c (filter p xs)
  member-passing [] c m pass = absurd m
  member-passing (x ∷ xs) c m pass = let rest = member-passing xs c in grind (arith, m, pass, rest)

  member-filtered : (xs : List A) (c : A) → IsMember c (filter p xs) → IsMember c xs × (p c ≡ true)
  member-filtered [] c m = absurd m
  member-filtered (x ∷ xs) c m = let rest = member-filtered xs c in grind (arith, m, rest)

  -- of two of which the other passes, the one that is met first among those that pass is met first in the list
  met_before-filtered : (xs : List A) (c d : A) → p d ≡ true → IsMetBefore (filter p xs) c d → IsMetBefore xs c d
  met_before-filtered [] c d pass met = absurd (let clash : None ≡ Some c = met.1 in cc)
  met_before-filtered (x ∷ xs) c d pass met = passes_or_not x
      (λ e. here e (subst (λ ys. IsMetBefore ys c d) (filter-pass x xs e) met) (met_before-filtered xs c d pass))
      (λ e. later e (met_before-filtered xs c d pass (subst (λ ys. IsMetBefore ys c d) (filter-fail x xs e) met)))
    where
      none_here : (k : ℕ) → (x ≡ d → ⊥) → ((j : ℕ) → j ≤ k → slice_get xs j ≡ Some d → ⊥) → (j : ℕ) → j ≤ suc k
          → slice_get (x ∷ xs) j ≡ Some d → ⊥
      none_here k apart none zero l s = apart (let same : x ≡ d = cc in same)
      none_here k apart none (suc j) l s = none j (omega arith) s

      later : p x ≡ false → IsMetBefore xs c d → IsMetBefore (x ∷ xs) c d
      later e m = (suc m.0, m.1, none_here m.0 (λ s. true≢false (sym pass ∙ ap p (sym s) ∙ e)) m.2)

      here : p x ≡ true → IsMetBefore (x ∷ filter p xs) c d → (IsMetBefore (filter p xs) c d → IsMetBefore xs c d)
          → IsMetBefore (x ∷ xs) c d
      here e (zero, at, none) rest = (zero, at, first)
        where
          first : (j : ℕ) → j ≤ 0 → slice_get (x ∷ xs) j ≡ Some d → ⊥
          first zero l s = none 0 (omega arith) s
          first (suc j) l s = absurd (omega arith)
      here e (suc i, at, none) rest =
          let m = rest (i, at, λ j l s. none (suc j) (omega arith) s) in
          (suc m.0, m.1, none_here m.0 (λ s. none 0 (omega arith) (ap Some s)) m.2)

-- two tests that agree on each
filter-same : {A : Type 0} (p q : A → Bool) (xs : List A) → ((x : A) → IsMember x xs → p x ≡ q x)
    → filter p xs ≡ filter q xs
filter-same p q [] same = refl
filter-same p q (x ∷ xs) same =
    ap (λ b. cond b (x ∷ filter p xs) (filter p xs)) (same x (inl refl))
    ∙ ap (λ ys. cond (q x) (x ∷ ys) ys) (filter-same p q xs (λ y m. same y (inr m)))

-- the search goes on from whatever leads there
module _ (components : ℕ → List ℕ) (to : ℕ) (on : ℕ → Bool)
    (leads : (c : ℕ) → ¬ (c ≡ to) → LeadsTo components c to → on c ≡ true) where
  -- the search goes on from here, or it ends here
  abbrev counts : ℕ → Bool
  counts c = on c || nat_eq c to

  -- the components from which the search goes on, or where a chain ends
  abbrev pub inner : ℕ → List ℕ
  inner fund = filter counts (components fund)

  counts-going_on : (c : ℕ) → on c ≡ true → counts c ≡ true
  counts-going_on c e = ap (λ b. b || nat_eq c to) e

  counts-end : counts to ≡ true
  counts-end = ap (λ b. on to || b) (eq-eqb to to refl) ∙ either (on to)
    where
      either : (b : Bool) → (b || true) ≡ true
      either true = refl
      either false = refl

  inner-has : (a c : ℕ) → Contains (components a) c → counts c ≡ true → Contains (inner a) c
  inner-has a c h e = Contains-from_IsMember (inner a) c
      (member-passing counts (components a) c (IsMember-from_Contains (components a) c h) e)

  inner-of : (a c : ℕ) → Contains (inner a) c → Contains (components a) c × (counts c ≡ true)
  inner-of a c h =
      let m = member-filtered counts (components a) c (IsMember-from_Contains (inner a) c h) in
      (Contains-from_IsMember (components a) c m.0, m.1)

  -- ---- the same chains

  chain-in : (a : ℕ) (between : List ℕ) → IsChain components a between to → IsChain inner a between to
  chain-in a [] h = inner-has a to h counts-end
  chain-in a (c ∷ cs) h = (inner-has a c h.0 (by (cases_eq c to)), chain-in c cs h.1)
    where
      by : (c ≡ to) ⊎ (c ≡ to → ⊥) → counts c ≡ true
      by (inl e) = ap counts e ∙ counts-end
      by (inr n) = counts-going_on c (leads c n (cs, h.1))

  chain-out : (a : ℕ) (between : List ℕ) → IsChain inner a between to → IsChain components a between to
  chain-out a [] h = (inner-of a to h).0
  chain-out a (c ∷ cs) h = ((inner-of a c h.0).0, chain-out c cs h.1)

  earlier-out : (a : ℕ) (cs ds : List ℕ) → IsChain inner a ds to → ComesEarlier inner a cs ds
      → ComesEarlier components a cs ds
  earlier-out a [] ds chain h = absurd h
  earlier-out a (c ∷ cs) [] chain h = absurd h
  earlier-out a (c ∷ cs) (d ∷ ds) chain (inl met) =
      inl (met_before-filtered counts (components a) c d ((inner-of a d chain.0).1) met)
  earlier-out a (c ∷ cs) (d ∷ ds) chain (inr on) =
      inr (
        on.0,
        subst (λ x. ComesEarlier components x cs ds) (sym on.0)
            (earlier-out d cs ds chain.1 (subst (λ x. ComesEarlier inner x cs ds) on.0 on.1)),
      )

  first_shortest-out : (from : ℕ) (path : List ℕ) → IsFirstShortest inner from to path
      → IsFirstShortest components from to path
  first_shortest-out from path p = record {
    between = p.between;
    whole = p.whole;
    chain = chain-out from p.between p.chain;
    shortest = λ other chain. p.shortest other (chain-in from other chain);
    first = λ other chain short. first other (chain-in from other chain)
        (p.first other (chain-in from other chain) short);
  }
    where
      first : (other : List ℕ) → IsChain inner from other to
          → (other ≡ p.between) ⊎ ComesEarlier inner from p.between other
          → (other ≡ p.between) ⊎ ComesEarlier components from p.between other
      first other chain (inl e) = inl e
      first other chain (inr h) = inr (earlier-out from p.between other chain h)

  -- ---- the search

  entered-is : (place : ℕ) (cs : List ℕ) (es : List (ℕ × ℕ))
      → entered on place cs es ≡ all_entered place (filter on cs) es
  entered-is place [] es = refl
  entered-is place (c ∷ cs) es =
      let kept = entered-is place cs es in
      let put = entered-is place cs (insert_entry nat_eq es c place) in
      grind (arith, kept, put)

  module _ (from : ℕ) where
    -- the entries before the place are done
    abbrev pub Searched : List (ℕ × ℕ) → ℕ → Type 0
    Searched es place = Noted inner from to es place []

    pub searched_none : Searched ((from, 0) ∷ []) 0
    searched_none = noted_none inner from to

    pub searched_found : (es : List (ℕ × ℕ)) (place fund before : ℕ) → Searched es place → place < length es
        → slice_get es place ≡ Some (fund, before) → Contains (components fund) to
        → (trail : List ℕ) × IsTraced es from place trail
        × IsFirstShortest components from to (from ∷ onto trail (to ∷ []))
    searched_found es place fund before h l entry there =
        let way = noted_found inner from to es place fund before h l entry (inner-has fund to there counts-end) in
        (way.0, way.1, first_shortest-out from (from ∷ onto way.0 (to ∷ [])) way.2)

    pub searched_next : (es : List (ℕ × ℕ)) (place fund before : ℕ) → Searched es place → place < length es
        → slice_get es place ≡ Some (fund, before) → (Contains (components fund) to → ⊥)
        → Searched (entered on place (components fund) es) (place + 1)
    searched_next es place fund before h l entry apart =
        subst (λ es'. Searched es' (place + 1))
        (ap (λ xs. all_entered place xs es) (filter-same counts on (components fund) same)
        ∙ sym (entered-is place (components fund) es))
        (noted_next inner from to es place fund before h l entry (λ k. apart (inner-of fund to k).0))
      where
        same : (c : ℕ) → IsMember c (components fund) → counts c ≡ on c
        same c m = passes_or_not (λ d. nat_eq d to) c
            (λ e. absurd
            (apart (subst (Contains (components fund)) (eqb-true c to e)
            (Contains-from_IsMember (components fund) c m))))
            (λ e. grind (arith, e))

    pub searched_all : (es : List (ℕ × ℕ)) (place : ℕ) → Searched es place → length es ≤ place
        → LeadsTo components from to → ⊥
    searched_all es place h l leads = noted_all inner from to es place h l (leads.0, chain-in from leads.0 leads.1)
