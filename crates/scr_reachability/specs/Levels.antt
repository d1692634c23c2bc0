-- The rank of a due: its round, if all dues are computed as early as their sources allow (own).
use Rattle.std.specs.Prelude.{◌≡◌, ℕ, zero, suc, max, Bool, List, [], ◌∷◌, Option, Some, if◌then◌else◌, length, map}
use Rattle.std.specs.Prelude.{nat_eq, slice_get, slice_index}
use Rattle.std.specs.List.{list_any}
use Rattle.scr_reachability.specs.declared.ranks.Due.{Due}
use Rattle.scr_reachability.specs.Dues.{EndsIn}

-- The numbers of the dues (own).
abbrev pub numbers_of : List Due → List ℕ
numbers_of dues = map (λ due. due.number) dues

-- The number of the due at an index (own).
abbrev pub number_at : List Due → ℕ → ℕ
number_at dues place = slice_index (numbers_of dues) place

-- The number is due (own).
abbrev pub is_due : List Due → ℕ → Bool
is_due dues n = list_any (nat_eq n) (numbers_of dues)

-- The sources of a number; none if it is not due (own).
abbrev pub sources_of : List Due → ℕ → List ℕ
sources_of [] n = []
sources_of (due ∷ dues) n = if nat_eq n due.number then due.sources.items else sources_of dues n

-- One above the greatest rank among the sources that are due; 0 if none is (own).
abbrev pub rank_over : (ℕ → Bool) → (ℕ → ℕ) → List ℕ → ℕ
rank_over due rank [] = 0
rank_over due rank (source ∷ sources) = max (if due source then suc (rank source) else 0) (rank_over due rank sources)

-- The rank of a number, found along at most this many levels of sources (own).
unfoldable pub rank_within : List Due → ℕ → ℕ → ℕ
rank_within dues zero n = 0
rank_within dues (suc k) n = rank_over (is_due dues) (rank_within dues k) (sources_of dues n)

-- The number has this rank, found along enough levels for all its chains of sources (own).
pub record IsRank (dues : List Due) (number rank : ℕ) : Type 0 where
  pub levels : ℕ
  pub ends : EndsIn dues levels number
  pub is : rank_within dues levels number ≡ rank

-- Each rank that is known is the rank of the due at its index (own).
pub record AreKnown (dues : List Due) (known : List (Option ℕ)) : Type 0 where
  pub long : length known ≡ length dues
  pub each : (place rank : ℕ) → slice_get known place ≡ Some (Some rank) → IsRank dues (number_at dues place) rank

-- The ranks of all dues, by index (own).
pub record AreRanks (dues : List Due) (ranks : List ℕ) : Type 0 where
  pub long : length ranks ≡ length dues
  pub each : (place rank : ℕ) → slice_get ranks place ≡ Some rank → IsRank dues (number_at dues place) rank
