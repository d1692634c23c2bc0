-- How far funds have handed out what they have (this project's own order of the reckoning).
use Rattle.std.specs.Prelude.{◌≡◌, ℕ, ◌<◌, Contains, List, count_by, nat_eq, slice_index}
use Rattle.std.specs.List.{IsDistinct}
use Rattle.scr_funds.specs.LookThrough.{Weighted}

-- how often a number is among the components of a row
abbrev pub times : ℕ → Weighted ℕ → ℕ
times x row = count_by (λ component. nat_eq x component.0) row

-- The funds that may hand out what they have, each once: just those for which no place in the row of a fund is left to
-- wait for.
pub record AreReady (count : ℕ) (waiting ready : List ℕ) : Type 0 where
  pub once : IsDistinct nat_eq ready
  pub each : (fund : ℕ) → Contains ready fund → (fund < count) × (slice_index waiting fund ≡ 0)
  pub all : (fund : ℕ) → fund < count → slice_index waiting fund ≡ 0 → Contains ready fund
