-- Dues: numbers to be computed, each with the numbers of its sources, some of which are due themselves (own).
use Rattle.std.specs.Prelude.{◌≡◌, ℕ, zero, suc, Contains, List, Some, map, nat_eq, slice_get}
use Rattle.std.specs.List.{IsDistinct}
use Rattle.scr_reachability.specs.declared.ranks.Due.{Due}

-- The due at index `source` is a source of the due at index `place` (own).
pub record IsSourceOf (dues : List Due) (source place : ℕ) : Type 0 where
  pub due : Due
  pub at : slice_get dues place ≡ Some due
  pub from : Due
  pub from_at : slice_get dues source ≡ Some from
  pub named : Contains due.sources.items from.number

-- Every chain of sources from number `n` through dues takes fewer than `k` steps; a number that is not due has no step (own).
unfoldable pub EndsIn : List Due → ℕ → ℕ → Type 0
EndsIn dues zero n = ⊥
EndsIn dues (suc k) n =
    (due : Due) → Contains dues due → due.number ≡ n
    → (source : ℕ) → Contains due.sources.items source → EndsIn dues k source

-- No number is due twice, and every chain of sources through dues takes fewer than `levels` steps (own). So no due is computed
-- from itself.
pub record IsSchedule (dues : List Due) (levels : ℕ) : Type 0 where
  pub once : IsDistinct nat_eq (map (λ due. due.number) dues)
  pub ends : (due : Due) → Contains dues due → EndsIn dues levels due.number
