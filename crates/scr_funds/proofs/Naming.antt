-- Chains under other names: where each holder of one kind stands for one of another, with the components that stand for
-- its own, chains are the same.
use Rattle.std.proofs.Common.{◌≡◌, ◌⊎◌, ℕ, ◌≤◌, suc, zero, List, [], ◌∷◌, map, length, Contains, Some, None, slice_get, refl, sym, ap, subst, ◌∙◌, inl, inr, arith}
use Rattle.std.proofs.lemmas.List.{map-append, length-map}
use Rattle.scr_funds.specs.Chains.{IsMetBefore, IsChain, LeadsTo, ComesEarlier, IsFirstShortest}
use Rattle.scr_funds.proofs.Members.{IsMember, IsMember-from_Contains, Contains-from_IsMember, IsMember-map}

module _ {A B : Type 0} (name : A → B) where
  IsMember-named : (xs : List A) (x : A) → IsMember x xs → IsMember (name x) (map name xs)
  IsMember-named [] x h = absurd h
  IsMember-named (y ∷ ys) x (inl e) = inl (ap name e)
  IsMember-named (y ∷ ys) x (inr h) = inr (IsMember-named ys x h)

  slice_get-named : (xs : List A) (i : ℕ) (x : A) → slice_get xs i ≡ Some x → slice_get (map name xs) i ≡ Some (name x)
  slice_get-named [] i x h = absurd (let clash : None ≡ Some x = h in cc)
  slice_get-named (y ∷ ys) zero x h = let same : y ≡ x = cc in ap (λ z. Some (name z)) same
  slice_get-named (y ∷ ys) (suc i) x h = slice_get-named ys i x h

  -- what is found under a name stands for one of the list
  named_at : (xs : List A) (i : ℕ) (n : B) → slice_get (map name xs) i ≡ Some n
      → (x : A) × (slice_get xs i ≡ Some x) × IsMember x xs × (name x ≡ n)
  named_at [] i n h = absurd (let clash : None ≡ Some n = h in cc)
  named_at (y ∷ ys) zero n h = let same : name y ≡ n = cc in (y, refl, inl refl, same)
  named_at (y ∷ ys) (suc i) n h = let later = named_at ys i n h in (later.0, later.1, inr later.2, later.3)

-- `In` holds of those of the one kind that count: their components count too, and no two of them have one name
module _ {A B : Type 0} (old : A → List A) (new : B → List B) (name : A → B) (In : A → Type 0)
    (stays : (a c : A) → In a → Contains (old a) c → In c)
    (named : (a : A) → In a → new (name a) ≡ map name (old a))
    (apart : (a b : A) → In a → In b → name a ≡ name b → a ≡ b) where
  component_named : (a c : A) → In a → Contains (old a) c → Contains (new (name a)) (name c)
  component_named a c in' h =
      Contains-from_IsMember (new (name a)) (name c)
      (subst (IsMember (name c)) (sym (named a in'))
      (IsMember-named name (old a) c (IsMember-from_Contains (old a) c h)))

  component_of_named : (a : A) (n : B) → In a → Contains (new (name a)) n → (c : A) × Contains (old a) c × (name c ≡ n)
  component_of_named a n in' h =
      let c = IsMember-map name (old a) n (subst (IsMember n) (named a in') (IsMember-from_Contains (new (name a)) n h))
      in
      (c.0, Contains-from_IsMember (old a) c.0 c.1, c.2)

  -- a chain goes under the names too
  pub chain_named : (a : A) (cs : List A) (b : A) → In a → IsChain old a cs b
      → IsChain new (name a) (map name cs) (name b)
  chain_named a [] b in' h = component_named a b in' h
  chain_named a (c ∷ cs) b in' h = (component_named a c in' h.0, chain_named c cs b (stays a c in' h.0) h.1)

  -- and each chain under the names is one of these
  pub chain_of_named : (a : A) (ns : List B) (n : B) → In a → IsChain new (name a) ns n
      → (cs : List A) × (b : A) × IsChain old a cs b × (map name cs ≡ ns) × In b × (name b ≡ n)
  chain_of_named a [] n in' h = let c = component_of_named a n in' h in ([], c.0, c.1, refl, stays a c.0 in' c.1, c.2)
  chain_of_named a (m ∷ ns) n in' h =
      let c = component_of_named a m in' h.0 in
      let rest = chain_of_named c.0 ns n (stays a c.0 in' c.1) (subst (λ x. IsChain new x ns n) (sym c.2) h.1) in
      (c.0 ∷ rest.0, rest.1, (c.1, rest.2), (λ i. c.2 i ∷ rest.3 i), rest.4, rest.5)

  pub leads_to_named : (a b : A) → In a → LeadsTo old a b → LeadsTo new (name a) (name b)
  leads_to_named a b in' h = (map name h.0, chain_named a h.0 b in' h.1)

  pub leads_to_of_named : (a b : A) → In a → In b → LeadsTo new (name a) (name b) → LeadsTo old a b
  leads_to_of_named a b in' inb h =
      let way = chain_of_named a h.0 (name b) in' h.1 in
      (way.0, subst (IsChain old a way.0) (apart way.1 b way.4 inb way.5) way.2)

  met_named : (a c d : A) → In a → In d → IsMetBefore (old a) c d → IsMetBefore (new (name a)) (name c) (name d)
  met_named a c d in' ind h =
      subst (λ row. IsMetBefore row (name c) (name d)) (sym (named a in')) (
        h.0,
        slice_get-named name (old a) h.0 c h.1,
        λ j l k.
            let x = named_at name (old a) j (name d) k in
            h.2 j l (x.1 ∙ ap Some (apart x.0 d (stays a x.0 in' (Contains-from_IsMember (old a) x.0 x.2)) ind x.3)),
      )

  earlier_named : (a : A) (cs ds : List A) (b : A) → In a → IsChain old a cs b → IsChain old a ds b
      → ComesEarlier old a cs ds → ComesEarlier new (name a) (map name cs) (map name ds)
  earlier_named a [] ds b in' h k e = absurd e
  earlier_named a (c ∷ cs) [] b in' h k e = absurd e
  earlier_named a (c ∷ cs) (d ∷ ds) b in' h k (inl m) = inl (met_named a c d in' (stays a d in' k.0) m)
  earlier_named a (c ∷ cs) (d ∷ ds) b in' h k (inr e) =
      inr (
        ap name e.0,
        earlier_named c cs ds b (stays a c in' h.0) h.1
            (subst (λ x. IsChain old x ds b) (sym e.0) k.1) e.1,
      )

  -- so the first shortest chain has the names of the first shortest
  pub first_shortest_named : (a b : A) (path : List A) → In a → In b → IsFirstShortest old a b path
      → IsFirstShortest new (name a) (name b) (map name path)
  first_shortest_named a b path in' inb p = record {
    between = map name p.between;
    whole = ap (map name) p.whole ∙ ap (λ ns. name a ∷ ns) (map-append name p.between (b ∷ []));
    chain = chain_named a p.between b in' p.chain;
    shortest = λ other chain. shortest other (way other chain);
    first = λ other chain. first other (way other chain);
  }
    where
      Way : List B → Type 0
      Way other = (cs : List A) × IsChain old a cs b × (map name cs ≡ other)

      way : (other : List B) → IsChain new (name a) other (name b) → Way other
      way other chain = let w = chain_of_named a other (name b) in' chain in
          (w.0, subst (IsChain old a w.0) (apart w.1 b w.4 inb w.5) w.2, w.3)

      shortest : (other : List B) → Way other → length (map name p.between) ≤ length other
      shortest other w =
          let l : length p.between ≤ length w.0 = p.shortest w.0 w.1 in
          let own : length (map name p.between) ≡ length p.between = length-map p.between name in
          let its : length (map name w.0) ≡ length w.0 = length-map w.0 name in
          let same : length (map name w.0) ≡ length other = ap length w.2 in
          omega arith

      first : (other : List B) → Way other → length other ≡ length (map name p.between)
          → (other ≡ map name p.between) ⊎ ComesEarlier new (name a) (map name p.between) other
      first other w equal =
          by (p.first w.0 w.1 (sym (length-map w.0 name) ∙ ap length w.2 ∙ equal ∙ length-map p.between name))
        where
          by : (w.0 ≡ p.between) ⊎ ComesEarlier old a p.between w.0
              → (other ≡ map name p.between) ⊎ ComesEarlier new (name a) (map name p.between) other
          by (inl e) = inl (sym w.2 ∙ ap (map name) e)
          by (inr e) =
              inr (subst (ComesEarlier new (name a) (map name p.between)) w.2
              (earlier_named a p.between w.0 b in' p.chain w.1 e))
