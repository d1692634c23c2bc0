-- The numbers of figures, put one after another.
use Rattle.std.proofs.Common.{◌≡◌, ◌⊎◌, inl, inr, ℕ, ◌++◌, nat_eq, List, [], ◌∷◌, Contains, refl, sym, subst}
use Rattle.std.specs.List.{IsDistinct}
use Rattle.scr_funds.proofs.Members.{IsMember, IsMember-from_Contains, Contains-from_IsMember, IsMember-left, IsMember-right, IsMember-cases}
use Rattle.scr_reachability.specs.LinkedDues.{AreStarts}
use Rattle.scr_reachability.proofs.DistinctDues.{distinct-append}

module _ {Node : Type 0} (At : Node → ℕ → Type 0) where
  pub starts-none : AreStarts At [] []
  starts-none = record {
    each = λ n h. absurd (IsMember-from_Contains [] n h);
    only = λ p h. absurd (IsMember-from_Contains [] p h);
  }

  module _ (nodes : List Node) (n : Node) (starts : List ℕ) (are : AreStarts At nodes starts) where
    -- a figure more that has no number
    pub starts-skip : ((number : ℕ) → At n number → ⊥) → AreStarts At (nodes ++ n ∷ []) starts
    starts-skip none = record {
      each = λ m h p at. by m p at (IsMember-cases nodes (n ∷ []) m (IsMember-from_Contains (nodes ++ n ∷ []) m h));
      only = λ p h.
          let m = are.only p h in
          (m.0, Contains-from_IsMember (nodes ++ n ∷ []) m.0 (IsMember-left nodes (n ∷ []) m.0 (IsMember-from_Contains nodes m.0 m.1)), m.2);
    }
      where
        by : (m : Node) (p : ℕ) → At m p → IsMember m nodes ⊎ IsMember m (n ∷ []) → Contains starts p
        by m p at (inl h) = are.each m (Contains-from_IsMember nodes m h) p at
        by m p at (inr (inl e)) = absurd (none p (subst (λ x. At x p) e at))
        by m p at (inr (inr h)) = absurd h

    -- a figure more with its number
    pub starts-more : (number : ℕ) → ((p : ℕ) → At n p → p ≡ number) → At n number
        → AreStarts At (nodes ++ n ∷ []) (starts ++ number ∷ [])
    starts-more number one is = record {
      each = λ m h p at. Contains-from_IsMember (starts ++ number ∷ []) p
          (by m p at (IsMember-cases nodes (n ∷ []) m (IsMember-from_Contains (nodes ++ n ∷ []) m h)));
      only = λ p h. of p (IsMember-cases starts (number ∷ []) p (IsMember-from_Contains (starts ++ number ∷ []) p h));
    }
      where
        by : (m : Node) (p : ℕ) → At m p → IsMember m nodes ⊎ IsMember m (n ∷ []) → IsMember p (starts ++ number ∷ [])
        by m p at (inl h) =
            IsMember-left starts (number ∷ []) p
            (IsMember-from_Contains starts p (are.each m (Contains-from_IsMember nodes m h) p at))
        by m p at (inr (inl e)) =
            IsMember-right starts (number ∷ []) p (inl (one p (subst (λ x. At x p) e at)))
        by m p at (inr (inr h)) = absurd h

        of : (p : ℕ) → IsMember p starts ⊎ IsMember p (number ∷ [])
            → (m : Node) × Contains (nodes ++ n ∷ []) m × At m p
        of p (inl h) =
            let m = are.only p (Contains-from_IsMember starts p h) in
            (m.0, Contains-from_IsMember (nodes ++ n ∷ []) m.0 (IsMember-left nodes (n ∷ []) m.0 (IsMember-from_Contains nodes m.0 m.1)), m.2)
        of p (inr (inl e)) =
            (n, Contains-from_IsMember (nodes ++ n ∷ []) n (IsMember-right nodes (n ∷ []) n (inl refl)), subst (At n) (sym e) is)
        of p (inr (inr h)) = absurd h

    -- is none of those before, where it is none of their figures
    pub starts-once : ((number : ℕ) (a b : Node) → At a number → At b number → a ≡ b) → (Contains nodes n → ⊥) → (number : ℕ)
        → At n number → IsDistinct nat_eq starts → IsDistinct nat_eq (starts ++ number ∷ [])
    unfolding IsDistinct
    starts-once exact fresh number is once =
        distinct-append starts (number ∷ []) once (tt, tt) (λ q h m. apart q h m)
      where
        apart : (q : ℕ) → IsMember q starts → IsMember q (number ∷ []) → ⊥
        apart q h (inl e) =
            let m = are.only q (Contains-from_IsMember starts q h) in
            fresh (subst (Contains nodes) (exact number m.0 n (subst (At m.0) e m.2) is) m.1)
        apart q h (inr m) = m
