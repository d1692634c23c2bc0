-- What becomes of chains where the components of one holder change.
use Rattle.std.proofs.Common.{◌≡◌, ◌≢◌, ◌⊎◌, List, [], ◌∷◌, ◌++◌, length, Contains, sym, ap, subst, ◌∙◌, inl, inr, arith}
use Rattle.scr_funds.specs.Chains.{IsMetBefore, IsChain, LeadsTo, IsAcyclic, ComesEarlier, IsFirstShortest}
use Rattle.scr_funds.proofs.Members.{met_before-trans, not_before_itself}

-- a chain on from the end of another
pub joined : {A : Type 0} (components : A → List A) (a : A) (cs : List A) (b : A) (ds : List A) (c : A)
    → IsChain components a cs b → IsChain components b ds c → IsChain components a (cs ++ b ∷ ds) c
joined components a [] b ds c h k = (h, k)
joined components a (x ∷ cs) b ds c h k = (h.0, joined components x cs b ds c h.1 k)

module _ {A : Type 0} (old new : A → List A) where
  -- where each component is one of before, so is each chain
  pub chain_weaker : ((a c : A) → Contains (new a) c → Contains (old a) c) → (a : A) (cs : List A) (b : A)
      → IsChain new a cs b → IsChain old a cs b
  chain_weaker f a [] b h = f a b h
  chain_weaker f a (c ∷ cs) b h = (f a c h.0, chain_weaker f c cs b h.1)

  pub acyclic_weaker : ((a c : A) → Contains (new a) c → Contains (old a) c) → IsAcyclic old → IsAcyclic new
  acyclic_weaker f h a chain = h a (chain.0, chain_weaker f a chain.0 a chain.1)

  -- the components of one holder alone differ
  module _ (from : A) (same : (x : A) → (x ≡ from) ⊎ (x ≢ from)) (others : (x : A) → x ≢ from → new x ≡ old x) where
    -- a chain passes by that holder or is one of before
    abbrev PassesBy : A → A → Type 0
    PassesBy a b = ((a ≡ from) ⊎ LeadsTo new a from) × LeadsTo new from b

    one_of_before_or_passes : (a : A) (cs : List A) (b : A) → IsChain new a cs b → IsChain old a cs b ⊎ PassesBy a b
    one_of_before_or_passes a [] b h = by (same a)
      where
        by : (a ≡ from) ⊎ (a ≢ from) → IsChain old a [] b ⊎ PassesBy a b
        by (inl e) = inr (inl e, ([], subst (λ x. Contains (new x) b) e h))
        by (inr n) = inl (subst (λ row. Contains row b) (others a n) h)
    one_of_before_or_passes a (c ∷ cs) b h = by (same a) (one_of_before_or_passes c cs b h.1)
      where
        later : (c ≡ from) ⊎ LeadsTo new c from → LeadsTo new a from
        later (inl e) = ([], subst (λ x. Contains (new a) x) e h.0)
        later (inr l) = (c ∷ l.0, (h.0, l.1))

        by : (a ≡ from) ⊎ (a ≢ from) → IsChain old c cs b ⊎ PassesBy c b → IsChain old a (c ∷ cs) b ⊎ PassesBy a b
        by (inl e) rest = inr (inl e, (c ∷ cs, subst (λ x. IsChain new x (c ∷ cs) b) e h))
        by (inr n) (inl k) = inl (subst (λ row. Contains row c) (others a n) h.0, k)
        by (inr n) (inr p) = inr (inr (later p.0), p.1)

    -- as far as it first comes there, a chain to that holder is one of before
    pub leads_before : (a : A) (cs : List A) → IsChain new a cs from → (a ≡ from) ⊎ LeadsTo old a from
    leads_before a [] h = by (same a)
      where
        by : (a ≡ from) ⊎ (a ≢ from) → (a ≡ from) ⊎ LeadsTo old a from
        by (inl e) = inl e
        by (inr n) = inr ([], subst (λ row. Contains row from) (others a n) h)
    leads_before a (c ∷ cs) h = by (same a) (leads_before c cs h.1)
      where
        by : (a ≡ from) ⊎ (a ≢ from) → (c ≡ from) ⊎ LeadsTo old c from → (a ≡ from) ⊎ LeadsTo old a from
        by (inl e) rest = inl e
        by (inr n) (inl k) = inr ([], subst (Contains (old a)) k (subst (λ row. Contains row c) (others a n) h.0))
        by (inr n) (inr l) = inr (c ∷ l.0, (subst (λ row. Contains row c) (others a n) h.0, l.1))

    -- nothing leads to itself, if nothing did and that holder does not
    pub acyclic_still : IsAcyclic old → (LeadsTo new from from → ⊥) → IsAcyclic new
    acyclic_still h apart a chain = by (one_of_before_or_passes a chain.0 a chain.1)
      where
        by : IsChain old a chain.0 a ⊎ PassesBy a a → ⊥
        by (inl k) = h a (chain.0, k)
        by (inr (inl e, l)) = apart (subst (LeadsTo new from) e l)
        by (inr (inr k, l)) = apart (l.0 ++ a ∷ k.0, joined new from l.0 a k.0 from l.1 k.1)

-- ---- one first shortest chain

module _ {A : Type 0} (components : A → List A) where
  not_both_earlier : (a : A) (cs ds : List A) → ComesEarlier components a cs ds → ComesEarlier components a ds cs → ⊥
  not_both_earlier a [] ds h k = h
  not_both_earlier a (c ∷ cs) [] h k = h
  not_both_earlier a (c ∷ cs) (d ∷ ds) (inl h) (inl k) =
      not_before_itself (components a) c (met_before-trans (components a) c d c h k)
  not_both_earlier a (c ∷ cs) (d ∷ ds) (inl h) (inr k) =
      not_before_itself (components a) c (subst (IsMetBefore (components a) c) k.0 h)
  not_both_earlier a (c ∷ cs) (d ∷ ds) (inr h) (inl k) =
      not_before_itself (components a) d (subst (IsMetBefore (components a) d) h.0 k)
  not_both_earlier a (c ∷ cs) (d ∷ ds) (inr h) (inr k) =
      not_both_earlier c cs ds h.1 (subst (λ x. ComesEarlier components x ds cs) k.0 k.1)

  pub one_first_shortest : (a b : A) (path other : List A) → IsFirstShortest components a b path
      → IsFirstShortest components a b other → path ≡ other
  one_first_shortest a b path other p q = p.whole
      ∙ ap (λ cs. a ∷ (cs ++ b ∷ [])) (by (p.first q.between q.chain longer) (q.first p.between p.chain (sym longer)))
      ∙ sym q.whole
    where
      longer : length q.between ≡ length p.between
      longer = let one = p.shortest q.between q.chain in let two = q.shortest p.between p.chain in
          omega (arith, one, two)

      by : (q.between ≡ p.between) ⊎ ComesEarlier components a p.between q.between
          → (p.between ≡ q.between) ⊎ ComesEarlier components a q.between p.between → p.between ≡ q.between
      by (inl e) k = sym e
      by (inr h) (inl e) = e
      by (inr h) (inr k) = absurd (not_both_earlier a p.between q.between h k)
