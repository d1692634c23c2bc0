-- What a search in order of distance has found out: the ways to what it reached are shortest ones and the first of
-- these.
use Rattle.std.proofs.Common.{◌≡◌, ◌⊎◌, ℕ, ◌+◌, ◌≤◌, suc, List, [], ◌∷◌, ◌++◌, map, length, Contains, refl, sym, ap, subst, ◌∙◌, inl, inr, arith}
use Rattle.std.specs.List.{AllByRecursion}
use Rattle.std.proofs.lemmas.List.{append_assoc, append-nil, map-append}
use Rattle.scr_funds.specs.Chains.{IsMetBefore, LeadsTo, ComesEarlier, IsFirstShortest}
use Rattle.scr_funds.proofs.Members.{IsMember, IsMember-from_Contains, Contains-from_IsMember, IsMember-left, IsMember-right, IsMember-cases, IsMember-map, at_member, each_push, each_weaker, met_in_front}
use Rattle.scr_funds.proofs.Trails.{onto, onto-append, length-onto, tip, IsTrail, IsSooner, IsNotLater, sooner-trans, not_later-trans, sooner-cons, not_later-cons, sooner_than_longer, chain_from_trail, trail_from_chain, comes_earlier}

module _ (components : ℕ → List ℕ) (from to : ℕ) where
  -- no trail to the same end is sooner
  abbrev pub IsLeast : List ℕ → Type 0
  IsLeast r = (s : List ℕ) → IsTrail components from s → tip components from s ≡ tip components from r
      → IsNotLater components from r s

  abbrev pub IsInOrder : List (List ℕ) → Type 0
  IsInOrder [] = Unit {0}
  IsInOrder (r ∷ rs) = AllByRecursion (IsSooner components from r) rs × IsInOrder rs

  -- the trail is one step on from one that is sooner than the current one, or from the current one by one of those seen
  abbrev pub Follows : List ℕ → List ℕ → List ℕ → Type 0
  Follows cur seen [] = Unit {0}
  Follows cur seen (y ∷ v) = IsSooner components from v cur ⊎ ((v ≡ cur) × IsMember y seen)

  abbrev pub FollowFirst : List ℕ → List (List ℕ) → Type 0
  FollowFirst seen [] = Unit {0}
  FollowFirst seen (cur ∷ rest) = AllByRecursion (Follows cur seen) rest

  -- `keys` were reached: those that are done, and then the ends of the trails that are still to do. Of the components
  -- of the first of these `seen` were entered.
  pub record Explored (done : List ℕ) (todo : List (List ℕ)) (seen keys : List ℕ) : Type 0 where
    pub reached : keys ≡ done ++ map (tip components from) todo
    pub root : IsMember from keys
    pub closed : AllByRecursion (λ f. (c : ℕ) → Contains (components f) c → IsMember c keys) done
    pub apart : AllByRecursion (λ f. Contains (components f) to → ⊥) done
    pub entered : AllByRecursion (λ c. IsMember c keys) seen
    pub trails : AllByRecursion (IsTrail components from) todo
    pub least : AllByRecursion IsLeast todo
    pub in_order : IsInOrder todo
    pub follow : FollowFirst seen todo

  pub explored_none : Explored [] ([] ∷ []) [] (from ∷ [])
  explored_none = record {
    reached = refl;
    root = inl refl;
    closed = tt;
    apart = tt;
    entered = tt;
    trails = (tt, tt);
    least = (least, tt);
    in_order = (tt, tt);
    follow = tt;
  }
    where
      least : IsLeast []
      least [] trail e = inl refl
      least (x ∷ s) trail e = inr (inl (omega arith))

  -- ---- every trail ends at what is done, or is not sooner than the first that is to do

  -- the end of a trail was reached
  ends_at_done : (done : List ℕ) (cur : List ℕ) (rest : List (List ℕ)) (seen keys : List ℕ)
      → Explored done (cur ∷ rest) seen keys
      → (s : List ℕ) → IsTrail components from s → IsMember (tip components from s) keys
      → IsMember (tip components from s) done ⊎ IsNotLater components from cur s
  ends_at_done done cur rest seen keys h s trail in' =
      by (IsMember-cases done (map (tip components from) (cur ∷ rest)) (tip components from s)
      (subst (IsMember (tip components from s)) h.reached in'))
    where
      sooner_rest : (r : List ℕ) → IsMember r (cur ∷ rest) → IsNotLater components from cur r
      sooner_rest r (inl e) = inl (sym e)
      sooner_rest r (inr m) = inr (at_member (IsSooner components from cur) rest r h.in_order.0 m)

      by : IsMember (tip components from s) done
          ⊎ IsMember (tip components from s) (map (tip components from) (cur ∷ rest))
          → IsMember (tip components from s) done ⊎ IsNotLater components from cur s
      by (inl m) = inl m
      by (inr m) =
          let r = IsMember-map (tip components from) (cur ∷ rest) (tip components from s) m in
          inr (not_later-trans components from cur r.0 s (sooner_rest r.0 r.1)
          (at_member IsLeast (cur ∷ rest) r.0 h.least r.1 s trail (sym r.2)))

  pub done_or_not_later : (done : List ℕ) (cur : List ℕ) (rest : List (List ℕ)) (seen keys : List ℕ)
      → Explored done (cur ∷ rest) seen keys
      → (s : List ℕ) → IsTrail components from s
      → IsMember (tip components from s) done ⊎ IsNotLater components from cur s
  done_or_not_later done cur rest seen keys h [] trail = ends_at_done done cur rest seen keys h [] trail h.root
  done_or_not_later done cur rest seen keys h (x ∷ v) trail = by (done_or_not_later done cur rest seen keys h v trail.1)
    where
      by : IsMember (tip components from v) done ⊎ IsNotLater components from cur v
          → IsMember x done ⊎ IsNotLater components from cur (x ∷ v)
      by (inl m) = ends_at_done done cur rest seen keys h (x ∷ v) trail
          (at_member (λ f. (c : ℕ) → Contains (components f) c → IsMember c keys) done
          (tip components from v) h.closed m x trail.0)
      by (inr l) = inr (inr (sooner_than_longer components from cur v x l))

  -- where nothing is left to do, all trails end at what is done
  pub all_done : (done seen keys : List ℕ) → Explored done [] seen keys → (s : List ℕ) → IsTrail components from s
      → IsMember (tip components from s) done
  all_done done seen keys h s trail = subst (IsMember (tip components from s)) (h.reached ∙ append-nil done)
      (in_keys s trail)
    where
      in_keys : (s : List ℕ) → IsTrail components from s → IsMember (tip components from s) keys
      in_keys [] t = h.root
      in_keys (x ∷ v) t =
          at_member (λ f. (c : ℕ) → Contains (components f) c → IsMember c keys) done (tip components from v) h.closed
          (subst (IsMember (tip components from v)) (h.reached ∙ append-nil done) (in_keys v t.1)) x t.0

  -- ---- what the search answers

  pub leads_nowhere : (done seen keys : List ℕ) → Explored done [] seen keys → LeadsTo components from to → ⊥
  leads_nowhere done seen keys h chain =
      let s = trail_from_chain components from [] chain.0 to tt chain.1 in
      at_member (λ f. Contains (components f) to → ⊥) done (tip components from s.0) h.apart
      (all_done done seen keys h s.0 s.1) s.2

  pub first_shortest : (done : List ℕ) (cur : List ℕ) (rest : List (List ℕ)) (seen keys : List ℕ)
      → Explored done (cur ∷ rest) seen keys
      → Contains (components (tip components from cur)) to
      → IsFirstShortest components from to (from ∷ onto cur (to ∷ []))
  first_shortest done cur rest seen keys h there = record {
    between = onto cur [];
    whole = ap (λ p. from ∷ p) (onto-append cur [] (to ∷ []));
    chain = chain_from_trail components from cur [] to h.trails.0 there;
    shortest = λ other chain. shortest other (trail_from_chain components from [] other to tt chain);
    first = λ other chain. first other (trail_from_chain components from [] other to tt chain);
  }
    where
      Way : List ℕ → Type 0
      Way other = (s : List ℕ) × IsTrail components from s × Contains (components (tip components from s)) to
          × (onto s [] ≡ other)

      not_later : (s : List ℕ) → IsTrail components from s → Contains (components (tip components from s)) to
          → IsNotLater components from cur s
      not_later s trail end = by (done_or_not_later done cur rest seen keys h s trail)
        where
          by : IsMember (tip components from s) done ⊎ IsNotLater components from cur s
              → IsNotLater components from cur s
          by (inl m) =
              absurd (at_member (λ f. Contains (components f) to → ⊥) done (tip components from s) h.apart m end)
          by (inr l) = l

      own : length (onto cur []) ≡ length cur
      own = let steps : length (onto cur []) ≡ length cur + 0 = length-onto cur [] in omega (arith, steps)

      its : (other : List ℕ) (w : Way other) → length w.0 ≡ length other
      its other w = let steps : length (onto w.0 []) ≡ length w.0 + 0 = length-onto w.0 [] in
          omega (arith, steps, ap length w.3)

      shortest : (other : List ℕ) → Way other → length (onto cur []) ≤ length other
      shortest other w = by (not_later w.0 w.1 w.2)
        where
          by : IsNotLater components from cur w.0 → length (onto cur []) ≤ length other
          by (inl e) = let k : length cur ≡ length w.0 = ap length e in omega (arith, own, its other w)
          by (inr (inl l)) = omega (arith, own, its other w)
          by (inr (inr l)) = let k : length cur ≡ length w.0 = l.0 in omega (arith, own, its other w)

      first : (other : List ℕ) → Way other → length other ≡ length (onto cur [])
          → (other ≡ onto cur []) ⊎ ComesEarlier components from (onto cur []) other
      first other w equal = by (not_later w.0 w.1 w.2)
        where
          by : IsNotLater components from cur w.0 → (other ≡ onto cur [])
              ⊎ ComesEarlier components from (onto cur []) other
          by (inl e) = inl (sym w.3 ∙ ap (λ s. onto s []) (sym e))
          by (inr (inl l)) = absurd (omega (arith, own, its other w, equal))
          by (inr (inr l)) =
              inr (subst (ComesEarlier components from (onto cur [])) w.3
              (comes_earlier components from cur w.0 [] [] l.1))

  -- ---- one component of the current fund is looked at

  -- more keys were reached
  module _ (done keys more : List ℕ) where
    closed_more : AllByRecursion (λ f. (c : ℕ) → Contains (components f) c → IsMember c keys) done
        → AllByRecursion (λ f. (c : ℕ) → Contains (components f) c → IsMember c (keys ++ more)) done
    closed_more = each_weaker (λ f. (c : ℕ) → Contains (components f) c → IsMember c keys)
        (λ f. (c : ℕ) → Contains (components f) c → IsMember c (keys ++ more))
        (λ f h c k. IsMember-left keys more c (h c k)) done

  follows_more : (cur seen : List ℕ) (c : ℕ) (r : List ℕ) → Follows cur seen r → Follows cur (seen ++ c ∷ []) r
  follows_more cur seen c [] h = tt
  follows_more cur seen c (y ∷ v) (inl h) = inl h
  follows_more cur seen c (y ∷ v) (inr h) = inr (h.0, IsMember-left seen (c ∷ []) y h.1)

  -- it was reached before
  pub explored_again : (done : List ℕ) (cur : List ℕ) (rest : List (List ℕ)) (seen keys : List ℕ) (c : ℕ)
      → Explored done (cur ∷ rest) seen keys → IsMember c keys → Explored done (cur ∷ rest) (seen ++ c ∷ []) keys
  explored_again done cur rest seen keys c h in' = record {
    reached = h.reached;
    root = h.root;
    closed = h.closed;
    apart = h.apart;
    entered = each_push (λ x. IsMember x keys) seen c h.entered in';
    trails = h.trails;
    least = h.least;
    in_order = h.in_order;
    follow = each_weaker (Follows cur seen) (Follows cur (seen ++ c ∷ [])) (follows_more cur seen c) rest h.follow;
  }

  in_order_push : (rs : List (List ℕ)) (new : List ℕ) → IsInOrder rs
      → AllByRecursion (λ r. IsSooner components from r new) rs → IsInOrder (rs ++ new ∷ [])
  in_order_push [] new h all = (tt, tt)
  in_order_push (r ∷ rs) new h all =
      (each_push (IsSooner components from r) rs new h.0 all.0, in_order_push rs new h.1 all.1)

  -- it is new
  module _ (done : List ℕ) (cur : List ℕ) (rest : List (List ℕ)) (seen ahead keys : List ℕ) (c : ℕ)
      (h : Explored done (cur ∷ rest) seen keys)
      (row : components (tip components from cur) ≡ seen ++ c ∷ ahead) (new : IsMember c keys → ⊥) where
    least_new : IsLeast (c ∷ cur)
    least_new [] trail e = absurd (new (subst (λ x. IsMember x keys) e h.root))
    least_new (x ∷ v) trail e = by (done_or_not_later done cur rest seen keys h v trail.1)
      where
        by : IsMember (tip components from v) done ⊎ IsNotLater components from cur v
            → IsNotLater components from (c ∷ cur) (x ∷ v)
        by (inl m) =
            absurd (new
            (subst (λ z. IsMember z keys) e
            (at_member (λ f. (d : ℕ) → Contains (components f) d → IsMember d keys) done
            (tip components from v) h.closed m x trail.0)))
        by (inr l) = subst (λ z. IsNotLater components from (c ∷ cur) (z ∷ v)) (sym e)
            (not_later-cons components from cur v c l)

    not_seen : IsMember c seen → ⊥
    not_seen m = new (at_member (λ x. IsMember x keys) seen c h.entered m)

    sooner_new : (r : List ℕ) → Follows cur seen r → IsSooner components from r (c ∷ cur)
    sooner_new [] f = inl (omega arith)
    sooner_new (y ∷ v) (inl l) = sooner-cons components from v cur y c l
    sooner_new (y ∷ v) (inr l) =
        let met : IsMetBefore (components (tip components from cur)) y c =
        subst (λ xs. IsMetBefore xs y c) (sym row) (met_in_front seen (c ∷ ahead) y c l.1 not_seen) in
        inr (
          ap (λ t. suc (length t)) l.0,
          inr (l.0, subst (λ t. IsMetBefore (components (tip components from t)) y c) (sym l.0) met),
        )

    pub explored_new : Explored done (cur ∷ (rest ++ (c ∷ cur) ∷ [])) (seen ++ c ∷ []) (keys ++ c ∷ [])
    explored_new = record {
      reached = ap (λ ks. ks ++ c ∷ []) h.reached ∙ append_assoc done (map (tip components from) (cur ∷ rest)) (c ∷ [])
          ∙ ap (λ ks. done ++ (tip components from cur ∷ ks))
          (sym (map-append (tip components from) rest ((c ∷ cur) ∷ [])));
      root = IsMember-left keys (c ∷ []) from h.root;
      closed = closed_more done keys (c ∷ []) h.closed;
      apart = h.apart;
      entered = each_push (λ x. IsMember x (keys ++ c ∷ [])) seen c
          (each_weaker (λ x. IsMember x keys) (λ x. IsMember x (keys ++ c ∷ []))
          (λ x. IsMember-left keys (c ∷ []) x) seen h.entered) (IsMember-right keys (c ∷ []) c (inl refl));
      trails = (
        h.trails.0,
        each_push (IsTrail components from) rest (c ∷ cur) h.trails.1 (
          Contains-from_IsMember (components (tip components from cur)) c
              (subst (IsMember c) (sym row) (IsMember-right seen (c ∷ ahead) c (inl refl))),
          h.trails.0,
        ),
      );
      least = (h.least.0, each_push IsLeast rest (c ∷ cur) h.least.1 least_new);
      in_order = in_order_push (cur ∷ rest) (c ∷ cur) h.in_order (
        sooner_than_longer components from cur cur c (inl refl),
        each_weaker (Follows cur seen) (λ r. IsSooner components from r (c ∷ cur)) sooner_new rest h.follow,
      );
      follow = each_push (Follows cur (seen ++ c ∷ [])) rest (c ∷ cur)
          (each_weaker (Follows cur seen) (Follows cur (seen ++ c ∷ [])) (follows_more cur seen c) rest h.follow)
          (inr (refl, IsMember-right seen (c ∷ []) c (inl refl)));
    }

  -- ---- the current fund is done

  follow_next : (cur next seen : List ℕ) → IsSooner components from cur next → (r : List ℕ) → Follows cur seen r
      → Follows next [] r
  follow_next cur next seen l [] f = tt
  follow_next cur next seen l (y ∷ v) (inl k) = inl (sooner-trans components from v cur next k l)
  follow_next cur next seen l (y ∷ v) (inr k) = inl (subst (λ u. IsSooner components from u next) (sym k.0) l)

  follow_rest : (cur : List ℕ) (rest : List (List ℕ)) (seen : List ℕ)
      → AllByRecursion (IsSooner components from cur) rest → AllByRecursion (Follows cur seen) rest
      → FollowFirst [] rest
  follow_rest cur [] seen l f = tt
  follow_rest cur (next ∷ rest) seen l f =
      each_weaker (Follows cur seen) (Follows next []) (follow_next cur next seen l.0) rest f.1

  pub explored_next : (done : List ℕ) (cur : List ℕ) (rest : List (List ℕ)) (keys : List ℕ)
      → Explored done (cur ∷ rest) (components (tip components from cur)) keys
      → (Contains (components (tip components from cur)) to → ⊥)
      → Explored (done ++ tip components from cur ∷ []) rest [] keys
  explored_next done cur rest keys h apart = record {
    reached = h.reached ∙ sym (append_assoc done (tip components from cur ∷ []) (map (tip components from) rest));
    root = h.root;
    closed = each_push (λ f. (c : ℕ) → Contains (components f) c → IsMember c keys) done
        (tip components from cur) h.closed
        (λ c k. at_member (λ x. IsMember x keys) (components (tip components from cur)) c h.entered
        (IsMember-from_Contains (components (tip components from cur)) c k));
    apart = each_push (λ f. Contains (components f) to → ⊥) done (tip components from cur) h.apart apart;
    entered = tt;
    trails = h.trails.1;
    least = h.least.1;
    in_order = h.in_order.1;
    follow = follow_rest cur rest (components (tip components from cur)) h.in_order.0 h.follow;
  }
