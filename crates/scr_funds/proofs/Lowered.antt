-- Funds that are lowered, one after another, until each is above its components.
use Rattle.std.proofs.Common.{◌≡◌, ◌⊎◌, ℕ, ◌+◌, ◌^◌, ◌<◌, ◌≤◌, All, IfSome, Option, SomeIff, nat_eq, if◌then◌else◌, List, [], ◌∷◌, ◌++◌, Some, None, unwrap_or, map, length, Contains, refl, sym, ap, subst, ◌∙◌, inl, inr, arith}
use Rattle.std.specs.declared.cmp.Ordering.{Ordering}
use Rattle.std.specs.declared.cmp.Ordering.TheVariants.{Less, Equal, Greater}
use Rattle.std.specs.Ordering.{match_ordering}
use Rattle.std.specs.BTreeSet.{insert_key}
use Rattle.std.specs.Map.{lookup}
use Rattle.std.proofs.lemmas.Bool.{cases_eq}
use Rattle.std.proofs.lemmas.List.{map-append}
use Rattle.std.proofs.lemmas.List.Elements.{All-contains, All-nil, All-weaker}
use Rattle.indexmap.specs.IndexMap.{insert_entry}
use Rattle.scr_funds.specs.Components.{Components, components_of, components_with}
use Rattle.scr_funds.specs.Ranks.{AreLowered, AreRanked, HavePlaces, IsPending, IsRanking, rank_now, rank_of}
use Rattle.scr_funds.proofs.Members.{IsMember, IsMember-from_Contains, Contains-from_IsMember, IsMember-cases, IsMember-mapped, All-from_members}
use Rattle.scr_funds.proofs.Rows.{with-other, with-own}

-- ---- what is put in

lookup-inserted : (es : List (ℕ × ℕ)) (k v q other : ℕ)
    → unwrap_or (lookup (nat_eq q) (insert_entry nat_eq es k v)) other
    ≡ (if nat_eq q k then v else unwrap_or (lookup (nat_eq q) es) other)
lookup-inserted [] k v q other = grind arith
lookup-inserted (e ∷ es) k v q other = let rest = lookup-inserted es k v q other in grind (arith, rest)

-- the rank of what is lowered, and every other as before
pub rank_now-inserted : (ranks : List ℕ) (es : List (ℕ × ℕ)) (k v fund : ℕ)
    → rank_now ranks (insert_entry nat_eq es k v) fund ≡ (if nat_eq fund k then v else rank_now ranks es fund)
rank_now-inserted ranks es k v fund = lookup-inserted es k v fund (rank_of ranks fund)

member-inserted : (es : List (ℕ × ℕ)) (k v : ℕ) (e : ℕ × ℕ) → IsMember e (insert_entry nat_eq es k v)
    → IsMember e es ⊎ (e.0 ≡ k)
member-inserted [] k v e (inl m) = inr (ap (λ (p : ℕ × ℕ). p.0) m)
member-inserted [] k v e (inr m) = absurd m
member-inserted (x ∷ es) k v e m = by (cases_eq k x.0) (member-inserted es k v e)
  where
    by : (k ≡ x.0) ⊎ (k ≡ x.0 → ⊥) → (IsMember e (insert_entry nat_eq es k v) → IsMember e es ⊎ (e.0 ≡ k))
        → IsMember e (x ∷ es) ⊎ (e.0 ≡ k)
    by (inl same) rest = here (subst (IsMember e) put m)
      where
        put : insert_entry nat_eq (x ∷ es) k v ≡ (x.0, v) ∷ es
        put = grind (arith, same)

        here : IsMember e ((x.0, v) ∷ es) → IsMember e (x ∷ es) ⊎ (e.0 ≡ k)
        here (inl s) = inr (ap (λ (p : ℕ × ℕ). p.0) s ∙ sym same)
        here (inr s) = inl (inr s)
    by (inr other) rest = there (subst (IsMember e) put m)
      where
        put : insert_entry nat_eq (x ∷ es) k v ≡ x ∷ insert_entry nat_eq es k v
        put = grind (arith, other)

        later : IsMember e es ⊎ (e.0 ≡ k) → IsMember e (x ∷ es) ⊎ (e.0 ≡ k)
        later (inl s) = inl (inr s)
        later (inr s) = inr s

        there : IsMember e (x ∷ insert_entry nat_eq es k v) → IsMember e (x ∷ es) ⊎ (e.0 ≡ k)
        there (inl s) = inl (inl s)
        there (inr s) = later (rest s)

pub placed-inserted : (ranks : List ℕ) (es : List (ℕ × ℕ)) (k v : ℕ) → HavePlaces ranks es → k < length ranks
    → HavePlaces ranks (insert_entry nat_eq es k v)
placed-inserted ranks es k v h l =
    All-from_members (λ e. e.0 < length ranks) (insert_entry nat_eq es k v)
    (λ e m. by e (member-inserted es k v e m))
  where
    by : (e : ℕ × ℕ) → IsMember e es ⊎ (e.0 ≡ k) → e.0 < length ranks
    by e (inl m) = All-contains (λ e. e.0 < length ranks) es e h (Contains-from_IsMember es e m)
    by e (inr same) = omega (arith, same, l)

-- a set of pairs whose order tells their numbers apart
module _ (cmp : ℕ × ℕ → ℕ × ℕ → Ordering) (tells : (p q : ℕ × ℕ) → cmp p q ≡ Equal → p ≡ q) where
  key-stays : (ks : List (ℕ × ℕ)) (k x : ℕ × ℕ) → IsMember x ks → IsMember x (insert_key cmp ks k)
  key-stays [] k x m = absurd m
  key-stays (y ∷ ks) k x m = by (cmp k y) m (key-stays ks k x)
    where
      by : (o : Ordering) → IsMember x (y ∷ ks) → (IsMember x ks → IsMember x (insert_key cmp ks k))
          → IsMember x (match_ordering o (k ∷ y ∷ ks) (y ∷ ks) (y ∷ insert_key cmp ks k))
      by Less h rest = inr h
      by Equal h rest = h
      by Greater (inl e) rest = inl e
      by Greater (inr h) rest = inr (rest h)

  key-put : (ks : List (ℕ × ℕ)) (k : ℕ × ℕ) → IsMember k (insert_key cmp ks k)
  key-put [] k = inl refl
  key-put (y ∷ ks) k = by (cmp k y) refl (key-put ks k)
    where
      by : (o : Ordering) → cmp k y ≡ o → IsMember k (insert_key cmp ks k)
          → IsMember k (match_ordering o (k ∷ y ∷ ks) (y ∷ ks) (y ∷ insert_key cmp ks k))
      by Less e rest = inl refl
      by Equal e rest = inl (tells k y e)
      by Greater e rest = inr rest

  pub pending-stays : (ks : List (ℕ × ℕ)) (k : ℕ × ℕ) (fund : ℕ) → IsPending ks fund
      → IsPending (insert_key cmp ks k) fund
  pending-stays ks k fund h =
      Contains-from_IsMember (map (λ (p : ℕ × ℕ). p.1) (insert_key cmp ks k)) fund
      (by ks (λ x m. key-stays ks k x m) (IsMember-from_Contains (map (λ (p : ℕ × ℕ). p.1) ks) fund h))
    where
      by : (xs : List (ℕ × ℕ)) → ((x : ℕ × ℕ) → IsMember x xs → IsMember x (insert_key cmp ks k))
          → IsMember fund (map (λ (p : ℕ × ℕ). p.1) xs)
          → IsMember fund (map (λ (p : ℕ × ℕ). p.1) (insert_key cmp ks k))
      by [] stays m = absurd m
      by (x ∷ xs) stays (inl e) = subst (λ f. IsMember f (map (λ (p : ℕ × ℕ). p.1) (insert_key cmp ks k))) (sym e)
          (IsMember-mapped (λ (p : ℕ × ℕ). p.1) (insert_key cmp ks k) x (stays x (inl refl)))
      by (x ∷ xs) stays (inr m) = by xs (λ y n. stays y (inr n)) m

  pub pending-put : (ks : List (ℕ × ℕ)) (k : ℕ × ℕ) → IsPending (insert_key cmp ks k) k.1
  pending-put ks k = Contains-from_IsMember (map (λ (p : ℕ × ℕ). p.1) (insert_key cmp ks k)) k.1
      (IsMember-mapped (λ (p : ℕ × ℕ). p.1) (insert_key cmp ks k) k (key-put ks k))

-- the last is taken out
pending-popped : (ks : List (ℕ × ℕ)) (k : ℕ × ℕ) (fund : ℕ) → IsPending (ks ++ k ∷ []) fund
    → IsPending ks fund ⊎ (fund ≡ k.1)
pending-popped ks k fund h =
    by (IsMember-cases (map number ks) (k.1 ∷ []) fund
    (subst (IsMember fund) (map-append number ks (k ∷ [])) (IsMember-from_Contains (map number (ks ++ k ∷ [])) fund h)))
  where
    number : ℕ × ℕ → ℕ
    number p = p.1

    by : IsMember fund (map number ks) ⊎ IsMember fund (k.1 ∷ []) → IsPending ks fund ⊎ (fund ≡ k.1)
    by (inl m) = inl (Contains-from_IsMember (map number ks) fund m)
    by (inr (inl e)) = inr e
    by (inr (inr m)) = absurd m

-- ---- begin and end

abbrev pub nothing : ℕ → Type 0
nothing holder = ⊥

abbrev pub it_is : ℕ → ℕ → Type 0
it_is fund holder = holder ≡ fund

module _ (components : ℕ → List ℕ) (ranks : List ℕ) where
  pub lowered_next : (fresh old new : List (ℕ × ℕ)) (k : ℕ × ℕ) → old ≡ new ++ k ∷ []
      → AreLowered components ranks nothing fresh old → AreLowered components ranks (it_is k.1) fresh new
  lowered_next fresh old new k e h = record {
    above = λ holder component m. by holder component (h.above holder component m);
    placed = h.placed;
  }
    where
      out : (holder : ℕ) → IsPending new holder ⊎ (holder ≡ k.1) → IsPending new holder ⊎ it_is k.1 holder
      out holder (inl p) = inl p
      out holder (inr s) = inr s

      by : (holder component : ℕ)
          → (rank_now ranks fresh component < rank_now ranks fresh holder) ⊎ (IsPending old holder ⊎ nothing holder)
          → (rank_now ranks fresh component < rank_now ranks fresh holder) ⊎ (IsPending new holder ⊎ it_is k.1 holder)
      by holder component (inl l) = inl l
      by holder component (inr (inl p)) = inr (out holder
          (pending-popped new k holder (subst (λ ks. IsPending ks holder) e p)))
      by holder component (inr (inr n)) = absurd n

  pub lowered_end : (fresh : List (ℕ × ℕ)) → AreLowered components ranks nothing fresh []
      → IsRanking components ranks fresh
  lowered_end fresh h = record {
    ranked = λ holder component m. by holder component (h.above holder component m);
    placed = h.placed;
  }
    where
      by : (holder component : ℕ)
          → (rank_now ranks fresh component < rank_now ranks fresh holder) ⊎ (IsPending [] holder ⊎ nothing holder)
          → rank_now ranks fresh component < rank_now ranks fresh holder
      by holder component (inl l) = l
      by holder component (inr (inl p)) = absurd (IsMember-from_Contains [] holder p)
      by holder component (inr (inr n)) = absurd n

module _ (from : ℕ) (members : List ℕ) (all : Components) (ranks : List ℕ)
    (ranked : AreRanked (components_of all) (rank_of ranks)) where
  pub lowered_begin : AreLowered (components_with from members all) ranks (it_is from) [] []
  lowered_begin = record {
    above = λ holder component m. by holder component m (cases_eq holder from);
    placed = All-nil (λ e. e.0 < length ranks);
  }
    where
      by : (holder component : ℕ) → Contains (components_with from members all holder) component
          → (holder ≡ from) ⊎ (holder ≡ from → ⊥)
          → (rank_of ranks component < rank_of ranks holder) ⊎ (IsPending [] holder ⊎ it_is from holder)
      by holder component m (inl e) = inr (inr e)
      by holder component m (inr n) = inl (ranked holder component
          (subst (λ row. Contains row component) (with-other from members all holder n) m))

  -- ---- a fund that is no component is raised

  module _ (apart : ¬ Contains members from) (none : (holder : ℕ) → ¬ Contains (components_of all holder) from)
      (above : ℕ) (over : All (λ member. rank_of ranks member < above) members) where
    member_below : (component : ℕ) → Contains members component → rank_of ranks component < above
    member_below component m = All-contains (λ member. rank_of ranks member < above) members component over m

    pub raised_none : above ≤ rank_of ranks from → IsRanking (components_with from members all) ranks []
    raised_none enough = record {
      ranked = λ holder component m. by holder component m (cases_eq holder from);
      placed = All-nil (λ e. e.0 < length ranks);
    }
      where
        by : (holder component : ℕ) → Contains (components_with from members all holder) component
            → (holder ≡ from) ⊎ (holder ≡ from → ⊥) → rank_of ranks component < rank_of ranks holder
        by holder component m (inl e) =
            let below : rank_of ranks component < above = member_below component
            (subst (λ row. Contains row component) (ap (components_with from members all) e ∙ with-own from members all) m)
            in
            subst (λ f. rank_of ranks component < rank_of ranks f) (sym e) (omega (arith, below, enough))
        by holder component m (inr n) = ranked holder component
            (subst (λ row. Contains row component) (with-other from members all holder n) m)

    pub raised_one : from < length ranks
        → IsRanking (components_with from members all) ranks ((from, above) ∷ [])
    raised_one l = record {
      ranked = λ holder component m. by holder component m (cases_eq holder from);
      placed = placed-inserted ranks [] from above (All-nil (λ e. e.0 < length ranks)) l;
    }
      where
        now : ℕ → ℕ
        now = rank_now ranks ((from, above) ∷ [])

        other : (fund : ℕ) → (fund ≡ from → ⊥) → now fund ≡ rank_of ranks fund
        other fund n = grind (arith, n)

        own : now from ≡ above
        own = grind arith

        by : (holder component : ℕ) → Contains (components_with from members all holder) component
            → (holder ≡ from) ⊎ (holder ≡ from → ⊥) → now component < now holder
        by holder component m (inl e) =
            let among = subst (λ row. Contains row component)
            (ap (components_with from members all) e ∙ with-own from members all) m in
            let below : rank_of ranks component < above = member_below component among in
            let same : now component ≡ rank_of ranks component = other component
            (λ s. apart (subst (Contains members) s among)) in
            let top : now holder ≡ above = ap now e ∙ own in
            omega (arith, below, same, top)
        by holder component m (inr n) =
            let among = subst (λ row. Contains row component) (with-other from members all holder n) m in
            let below : rank_of ranks component < rank_of ranks holder = ranked holder component among in
            let same : now component ≡ rank_of ranks component = other component
            (λ s. none holder (subst (Contains (components_of all holder)) s among)) in
            let kept : now holder ≡ rank_of ranks holder = other holder n in
            omega (arith, below, same, kept)

-- ---- one component after another

module _ (components : ℕ → List ℕ) (ranks : List ℕ) (fund below : ℕ) where
  -- of the fund's components `seen` are below it, as long as it is not lowered itself
  pub record Sinking (seen : List ℕ) (fresh pending : List (ℕ × ℕ)) : Type 0 where
    pub lowered : AreLowered components ranks (it_is fund) fresh pending
    pub own : (rank_now ranks fresh fund ≡ below + 1) ⊎ IsPending pending fund
    pub under : (c : ℕ) → IsMember c seen → rank_now ranks fresh c ≤ below

  pub sinking_none : (fresh pending : List (ℕ × ℕ)) → AreLowered components ranks (it_is fund) fresh pending
      → rank_now ranks fresh fund ≡ below + 1 → Sinking [] fresh pending
  sinking_none fresh pending h e = record { lowered = h; own = inl e; under = λ c m. absurd m }

  pub sinking_kept : (seen : List ℕ) (fresh pending : List (ℕ × ℕ)) (c : ℕ) → Sinking seen fresh pending
      → rank_now ranks fresh c ≤ below → Sinking (seen ++ c ∷ []) fresh pending
  sinking_kept seen fresh pending c h l = record {
    lowered = h.lowered;
    own = h.own;
    under = λ x m. by x (IsMember-cases seen (c ∷ []) x m);
  }
    where
      by : (x : ℕ) → IsMember x seen ⊎ IsMember x (c ∷ []) → rank_now ranks fresh x ≤ below
      by x (inl m) = h.under x m
      by x (inr (inl e)) = subst (λ y. rank_now ranks fresh y ≤ below) (sym e) l
      by x (inr (inr m)) = absurd m

  module _ (seen : List ℕ) (fresh pending : List (ℕ × ℕ)) (c : ℕ) (h : Sinking seen fresh pending)
      (over : below < rank_now ranks fresh c) (place : c < length ranks) (more : List (ℕ × ℕ))
      (stays : (x : ℕ) → IsPending pending x → IsPending more x) (put : IsPending more c) where
    abbrev pub next : List (ℕ × ℕ)
    next = insert_entry nat_eq fresh c below

    now : (x : ℕ) → rank_now ranks next x ≡ (if nat_eq x c then below else rank_now ranks fresh x)
    now x = rank_now-inserted ranks fresh c below x

    other : (x : ℕ) → (x ≡ c → ⊥) → rank_now ranks next x ≡ rank_now ranks fresh x
    other x n = let is = now x in grind (arith, is, n)

    lowest : rank_now ranks next c ≡ below
    lowest = let is = now c in grind (arith, is)

    sinks : (x : ℕ) → rank_now ranks next x ≤ rank_now ranks fresh x
    sinks x = by (cases_eq x c)
      where
        by : (x ≡ c) ⊎ (x ≡ c → ⊥) → rank_now ranks next x ≤ rank_now ranks fresh x
        by (inl e) = subst (λ y. rank_now ranks next y ≤ rank_now ranks fresh y) (sym e) (omega (arith, lowest, over))
        by (inr n) = let is = other x n in omega (arith, is)

    pub sinking_one : Sinking (seen ++ c ∷ []) next more
    sinking_one = record {
      lowered = record {
        above = λ holder component m. above holder component (h.lowered.above holder component m);
        placed = placed-inserted ranks fresh c below h.lowered.placed place;
      };
      own = own h.own (cases_eq fund c);
      under = λ x m. under x (IsMember-cases seen (c ∷ []) x m);
    }
      where
        above : (holder component : ℕ)
            → (rank_now ranks fresh component < rank_now ranks fresh holder)
            ⊎ (IsPending pending holder ⊎ it_is fund holder)
            → (rank_now ranks next component < rank_now ranks next holder)
            ⊎ (IsPending more holder ⊎ it_is fund holder)
        above holder component (inl l) = by (cases_eq holder c)
          where
            by : (holder ≡ c) ⊎ (holder ≡ c → ⊥)
                → (rank_now ranks next component < rank_now ranks next holder)
                ⊎ (IsPending more holder ⊎ it_is fund holder)
            by (inl e) = inr (inl (subst (IsPending more) (sym e) put))
            by (inr n) = let a = sinks component in let b = other holder n in inl (omega (arith, a, b, l))
        above holder component (inr (inl p)) = inr (inl (stays holder p))
        above holder component (inr (inr e)) = inr (inr e)

        own : (rank_now ranks fresh fund ≡ below + 1) ⊎ IsPending pending fund → (fund ≡ c) ⊎ (fund ≡ c → ⊥)
            → (rank_now ranks next fund ≡ below + 1) ⊎ IsPending more fund
        own (inl e) (inl s) = inr (subst (IsPending more) (sym s) put)
        own (inl e) (inr n) = inl (other fund n ∙ e)
        own (inr p) s = inr (stays fund p)

        under : (x : ℕ) → IsMember x seen ⊎ IsMember x (c ∷ []) → rank_now ranks next x ≤ below
        under x (inl m) = let a = sinks x in let b = h.under x m in omega (arith, a, b)
        under x (inr (inl e)) = subst (λ y. rank_now ranks next y ≤ below) (sym e) (omega (arith, lowest))
        under x (inr (inr m)) = absurd m

  pub sinking_all : (fresh pending : List (ℕ × ℕ)) → Sinking (components fund) fresh pending
      → AreLowered components ranks nothing fresh pending
  sinking_all fresh pending h = record {
    above = λ holder component m. by holder component m (h.lowered.above holder component m) h.own;
    placed = h.lowered.placed;
  }
    where
      by : (holder component : ℕ) → Contains (components holder) component
          → (rank_now ranks fresh component < rank_now ranks fresh holder)
          ⊎ (IsPending pending holder ⊎ it_is fund holder)
          → (rank_now ranks fresh fund ≡ below + 1) ⊎ IsPending pending fund
          → (rank_now ranks fresh component < rank_now ranks fresh holder) ⊎ (IsPending pending holder ⊎ nothing holder)
      by holder component m (inl l) own = inl l
      by holder component m (inr (inl p)) own = inr (inl p)
      by holder component m (inr (inr e)) (inr p) = inr (inl (subst (IsPending pending) (sym e) p))
      by holder component m (inr (inr e)) (inl r) =
          let under = h.under component (IsMember-from_Contains (components fund) component
          (subst (λ f. Contains (components f) component) e m)) in
          let top : rank_now ranks fresh holder ≡ below + 1 = ap (rank_now ranks fresh) e ∙ r in
          inl (omega (arith, under, top))

-- nothing is pending
pub none_pending : (ks : List (ℕ × ℕ)) → ¬ (0 < length ks) → ks ≡ []
none_pending [] none = refl
none_pending (k ∷ ks) none = absurd (none (omega arith))

-- the number after the highest rank, where there is one
pub above_all : (ranks members : List ℕ) (most : ℕ) (found : Option ℕ) → SomeIff found (most + 1 < 2 ^ 64) (most + 1)
    → All (λ member. rank_of ranks member ≤ most) members
    → IfSome found (λ above. All (λ member. rank_of ranks member < above) members)
above_all ranks members most None h all = tt
above_all ranks members most (Some above) h all =
    All-weaker (λ member. rank_of ranks member ≤ most) (λ member. rank_of ranks member < above)
    (λ member l. let next = h.1 in omega (arith, l, next)) members all
