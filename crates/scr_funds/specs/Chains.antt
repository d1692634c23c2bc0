-- Chains of components (Article 84 of Delegated Regulation (EU) 2015/35), for holders of any kind. `components` gives
-- the direct components of each holder in the order of its record.
use Rattle.std.specs.Prelude.{◌≡◌, ◌≢◌, ◌⊎◌, ℕ, ◌≤◌, List, [], ◌∷◌, ◌++◌, length, Contains, Some, slice_get}

-- c is met before d: c has a place in the list up to which d has none
abbrev pub IsMetBefore : {A : Type 0} → List A → A → A → Type 0
IsMetBefore xs c d = (i : ℕ) × (slice_get xs i ≡ Some c) × ((j : ℕ) → j ≤ i → slice_get xs j ≢ Some d)

module _ {A : Type 0} (components : A → List A) where
  -- a chain from a to b, given by what lies between them: each is a component of the one before it
  abbrev pub IsChain : A → List A → A → Type 0
  IsChain a [] b = Contains (components a) b
  IsChain a (c ∷ cs) b = Contains (components a) c × IsChain c cs b

  -- a chain of components goes from a to b
  abbrev pub LeadsTo : A → A → Type 0
  LeadsTo a b = (between : List A) × IsChain a between b

  -- nothing leads to itself
  abbrev pub IsAcyclic : Type 0
  IsAcyclic = (a : A) → ¬ LeadsTo a a

  -- Of two ways on from a, the first comes earlier: compared step by step, it is the first to go on by a component
  -- that is met before the other's in the record.
  abbrev pub ComesEarlier : A → List A → List A → Type 0
  ComesEarlier a [] ds = ⊥
  ComesEarlier a (c ∷ cs) [] = ⊥
  ComesEarlier a (c ∷ cs) (d ∷ ds) = IsMetBefore (components a) c d ⊎ ((c ≡ d) × ComesEarlier c cs ds)

  -- The path goes from a to b by a chain. No chain from a to b is shorter, and every other one that is as short comes
  -- later (that this chain is told is this project's own).
  pub record IsFirstShortest (a b : A) (path : List A) : Type 0 where
    pub between : List A
    pub whole : path ≡ a ∷ (between ++ b ∷ [])
    pub chain : IsChain a between b
    pub shortest : (other : List A) → IsChain a other b → length between ≤ length other
    pub first : (other : List A) → IsChain a other b → length other ≡ length between
        → (other ≡ between) ⊎ ComesEarlier a between other
