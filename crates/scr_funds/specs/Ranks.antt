-- Ranks of funds, which fall along each edge (this project's own): each by its place, and what has no place has the rank
-- in the middle, since ranks fall and rise.
use Rattle.std.specs.Prelude.{ℕ, ◌^◌, ◌<◌, ◌⊎◌, All, Contains, List, length, map, nat_eq, slice_index_or, unwrap_or}
use Rattle.std.specs.Map.{lookup}

abbrev pub rank_of : List ℕ → ℕ → ℕ
rank_of ranks fund = slice_index_or ranks fund (2 ^ 63)

-- the rank of each component is lower
abbrev pub AreRanked : (ℕ → List ℕ) → (ℕ → ℕ) → Type 0
AreRanked components rank =
    (holder component : ℕ) → Contains (components holder) component → rank component < rank holder

-- the ranks once some funds have new ones
abbrev pub rank_now : List ℕ → List (ℕ × ℕ) → ℕ → ℕ
rank_now ranks fresh fund = unwrap_or (lookup (nat_eq fund) fresh) (rank_of ranks fund)

-- whatever gets a new rank has a place for it
abbrev pub HavePlaces : List ℕ → List (ℕ × ℕ) → Type 0
HavePlaces ranks fresh = All (λ entry. entry.0 < length ranks) fresh

-- each component has a place for its rank
abbrev pub AreWithin : List ℕ → (ℕ → List ℕ) → Type 0
AreWithin ranks components =
    (holder component : ℕ) → Contains (components holder) component → component < length ranks

-- with the new ranks, that of each component is lower
pub record IsRanking (components : ℕ → List ℕ) (ranks : List ℕ) (fresh : List (ℕ × ℕ)) : Type 0 where
  pub ranked : AreRanked components (rank_now ranks fresh)
  pub placed : HavePlaces ranks fresh

-- the fund is among those whose components are still to be looked at, each with its rank of before
abbrev pub IsPending : List (ℕ × ℕ) → ℕ → Type 0
IsPending pending fund = Contains (map (λ p. p.1) pending) fund

-- each fund is above its components, is pending, or is one that is left apart
pub record AreLowered (components : ℕ → List ℕ) (ranks : List ℕ) (apart : ℕ → Type 0) (fresh pending : List (ℕ × ℕ))
    : Type 0 where
  pub above : (holder component : ℕ) → Contains (components holder) component
      → (rank_now ranks fresh component < rank_now ranks fresh holder) ⊎ (IsPending pending holder ⊎ apart holder)
  pub placed : HavePlaces ranks fresh
