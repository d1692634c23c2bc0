-- Trails: ways on from one fund, as lists with their last step first, so that one more step is put in front.
use Rattle.std.proofs.Common.{◌≡◌, ◌⊎◌, ◌+◌, ◌<◌, suc, List, [], ◌∷◌, ◌++◌, length, Contains, refl, sym, ap, subst, ◌∙◌, inl, inr, arith}
use Rattle.scr_funds.specs.Chains.{IsMetBefore, IsChain, ComesEarlier}
use Rattle.scr_funds.proofs.Members.{met_before-trans}

-- the steps of a trail in their order, and then further ones
abbrev pub onto : {A : Type 0} → List A → List A → List A
onto [] cs = cs
onto (x ∷ r) cs = onto r (x ∷ cs)

pub onto-append : {A : Type 0} (r cs ds : List A) → onto r (cs ++ ds) ≡ onto r cs ++ ds
onto-append [] cs ds = refl
onto-append (x ∷ r) cs ds = onto-append r (x ∷ cs) ds

pub length-onto : {A : Type 0} (r cs : List A) → length (onto r cs) ≡ length r + length cs
length-onto [] cs = omega arith
length-onto (x ∷ r) cs = let rest : length (onto r (x ∷ cs)) ≡ length r + length (x ∷ cs) = length-onto r (x ∷ cs) in
    omega arith

module _ {A : Type 0} (components : A → List A) (from : A) where
  -- where a trail ends
  abbrev pub tip : List A → A
  tip [] = from
  tip (x ∷ r) = x

  abbrev pub IsTrail : List A → Type 0
  IsTrail [] = Unit {0}
  IsTrail (x ∷ r) = Contains (components (tip r)) x × IsTrail r

  -- of two trails that are as long, the first comes earlier at the first step at which they differ
  abbrev pub IsEarlier : List A → List A → Type 0
  IsEarlier [] s = ⊥
  IsEarlier (x ∷ r) [] = ⊥
  IsEarlier (x ∷ r) (y ∷ s) = IsEarlier r s ⊎ ((r ≡ s) × IsMetBefore (components (tip r)) x y)

  -- shorter, or as long and earlier
  abbrev pub IsSooner : List A → List A → Type 0
  IsSooner r s = (length r < length s) ⊎ ((length r ≡ length s) × IsEarlier r s)

  abbrev pub IsNotLater : List A → List A → Type 0
  IsNotLater r s = (r ≡ s) ⊎ IsSooner r s

  pub earlier-trans : (r s t : List A) → IsEarlier r s → IsEarlier s t → IsEarlier r t
  earlier-trans [] s t h k = absurd h
  earlier-trans (x ∷ r) [] t h k = absurd h
  earlier-trans (x ∷ r) (y ∷ s) [] h k = absurd k
  earlier-trans (x ∷ r) (y ∷ s) (z ∷ t) (inl h) (inl k) = inl (earlier-trans r s t h k)
  earlier-trans (x ∷ r) (y ∷ s) (z ∷ t) (inl h) (inr k) = inl (subst (IsEarlier r) k.0 h)
  earlier-trans (x ∷ r) (y ∷ s) (z ∷ t) (inr h) (inl k) = inl (subst (λ u. IsEarlier u t) (sym h.0) k)
  earlier-trans (x ∷ r) (y ∷ s) (z ∷ t) (inr h) (inr k) =
      inr (
        h.0 ∙ k.0,
        met_before-trans (components (tip r)) x y z h.1
            (subst (λ u. IsMetBefore (components (tip u)) y z) (sym h.0) k.1),
      )

  pub sooner-trans : (r s t : List A) → IsSooner r s → IsSooner s t → IsSooner r t
  sooner-trans r s t (inl h) (inl k) = inl (omega arith)
  sooner-trans r s t (inl h) (inr k) = inl (omega arith)
  sooner-trans r s t (inr h) (inl k) = inl (omega arith)
  sooner-trans r s t (inr h) (inr k) = inr (h.0 ∙ k.0, earlier-trans r s t h.1 k.1)

  pub sooner_not_later : (r s t : List A) → IsSooner r s → IsNotLater s t → IsSooner r t
  sooner_not_later r s t h (inl e) = subst (IsSooner r) e h
  sooner_not_later r s t h (inr k) = sooner-trans r s t h k

  pub not_later-trans : (r s t : List A) → IsNotLater r s → IsNotLater s t → IsNotLater r t
  not_later-trans r s t (inl e) k = subst (λ u. IsNotLater u t) (sym e) k
  not_later-trans r s t (inr h) k = inr (sooner_not_later r s t h k)

  -- one more step on each side keeps the order
  pub sooner-cons : (r s : List A) (x y : A) → IsSooner r s → IsSooner (x ∷ r) (y ∷ s)
  sooner-cons r s x y (inl h) = inl (omega arith)
  sooner-cons r s x y (inr h) = inr (ap suc h.0, inl h.1)

  -- the same step on each side
  pub not_later-cons : (r s : List A) (x : A) → IsNotLater r s → IsNotLater (x ∷ r) (x ∷ s)
  not_later-cons r s x (inl e) = inl (ap (λ t. x ∷ t) e)
  not_later-cons r s x (inr h) = inr (sooner-cons r s x x h)

  -- a step more is later
  pub sooner_than_longer : (r s : List A) (x : A) → IsNotLater r s → IsSooner r (x ∷ s)
  sooner_than_longer r s x (inl e) = let same : length r ≡ length s = ap length e in inl (omega arith)
  sooner_than_longer r s x (inr (inl h)) = inl (omega arith)
  sooner_than_longer r s x (inr (inr h)) = let same : length r ≡ length s = h.0 in inl (omega arith)

  -- ---- trails and chains

  -- a trail and a chain from its end make up a chain
  pub chain_from_trail : (r cs : List A) (b : A) → IsTrail r → IsChain components (tip r) cs b
      → IsChain components from (onto r cs) b
  chain_from_trail [] cs b trail chain = chain
  chain_from_trail (x ∷ r) cs b trail chain = chain_from_trail r (x ∷ cs) b trail.1 (trail.0, chain)

  -- what lies between the ends of a chain is a trail, whose end has the chain's end for a component
  pub trail_from_chain : (r cs : List A) (b : A) → IsTrail r → IsChain components (tip r) cs b
      → (s : List A) × IsTrail s × Contains (components (tip s)) b × (onto s [] ≡ onto r cs)
  trail_from_chain r [] b trail chain = (r, trail, chain, refl)
  trail_from_chain r (c ∷ cs) b trail chain = trail_from_chain (c ∷ r) cs b (chain.0, trail) chain.1

  -- after the same steps the order is that of what follows
  earlier_after : (r cs ds : List A) → ComesEarlier components (tip r) cs ds
      → ComesEarlier components from (onto r cs) (onto r ds)
  earlier_after [] cs ds h = h
  earlier_after (x ∷ r) cs ds h = earlier_after r (x ∷ cs) (x ∷ ds) (inr (refl, h))

  pub comes_earlier : (r s cs ds : List A) → IsEarlier r s → ComesEarlier components from (onto r cs) (onto s ds)
  comes_earlier [] s cs ds h = absurd h
  comes_earlier (x ∷ r) [] cs ds h = absurd h
  comes_earlier (x ∷ r) (y ∷ s) cs ds (inl h) = comes_earlier r s (x ∷ cs) (y ∷ ds) h
  comes_earlier (x ∷ r) (y ∷ s) cs ds (inr h) =
      subst (λ t. ComesEarlier components from (onto r (x ∷ cs)) (onto t (y ∷ ds))) h.0
      (earlier_after r (x ∷ cs) (y ∷ ds) (inl h.1))
