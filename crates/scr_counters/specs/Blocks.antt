-- Counts by block and place (this project's own): a list of blocks, each with its counts. What is not in it is 0.
use Rattle.std.specs.Prelude.{◌≡◌, ℕ, ◌<◌, List, [], Option, Some, None, slice_index_or}
use Rattle.scr_counters.specs.Counts.{count_at}

-- the counts of a block
abbrev pub block_at : List (List ℕ) → ℕ → List ℕ
block_at blocks block = slice_index_or blocks block []

-- the count at a place of a block
abbrev pub count_in : List (List ℕ) → ℕ → ℕ → ℕ
count_in blocks block place = count_at (block_at blocks block) place

-- now this count stands at one place of a block, and at every other place what stood there before
pub record IsCountWritten (block place count : ℕ) (before now : List (List ℕ)) : Type 0 where
  pub own : count_in now block place ≡ count
  pub others : (b p : ℕ) → ((b ≡ block) → (p ≡ place) → ⊥) → count_in now b p ≡ count_in before b p

-- the last block and place whose count is not 0, if there is one
abbrev pub IsLastIn : List (List ℕ) → Option (ℕ × ℕ) → Type 0
IsLastIn blocks None = (block place : ℕ) → count_in blocks block place ≡ 0
IsLastIn blocks (Some (last, at)) =
    (0 < count_in blocks last at) × ((place : ℕ) → at < place → count_in blocks last place ≡ 0)
    × ((block place : ℕ) → last < block → count_in blocks block place ≡ 0)
