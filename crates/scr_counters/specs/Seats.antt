-- How the counts of 251 blocks of 438 places are kept (this project's own): only a block in which something was counted has a seat, and
-- its counts stand there.
use Rattle.std.specs.Prelude.{◌≡◌, ℕ, ◌+◌, ◌<◌, ◌≤◌, List, [], ◌∷◌, Option, Some, None, length, map, slice_index_or}
use Rattle.scr_counters.specs.Blocks.{block_at}

-- the seat of a block, if it has one
abbrev pub seat_of : List (Option ℕ) → ℕ → Option ℕ
seat_of seats block = slice_index_or seats block None

-- the counts at a seat; none without one
abbrev pub counts_at : List (List ℕ) → Option ℕ → List ℕ
counts_at counts None = []
counts_at counts (Some seat) = block_at counts seat

-- the counts of each block
abbrev pub by_block : List (Option ℕ) → List (List ℕ) → List (List ℕ)
by_block seats counts = map (counts_at counts) seats

-- how many blocks have a seat
abbrev pub seated : List (Option ℕ) → ℕ
seated [] = 0
seated (None ∷ seats) = seated seats
seated (Some seat ∷ seats) = seated seats + 1

-- no two blocks have the same seat, each seat is of a block, and there is room for all blocks
pub record AreSeated (seats : List (Option ℕ)) (counts : List (List ℕ)) (capacity : ℕ) : Type 0 where
  pub blocks : length seats ≡ 251
  pub places : (seat : ℕ) → seat < length counts → length (block_at counts seat) ≡ 438
  pub within : (block seat : ℕ) → seat_of seats block ≡ Some seat → seat < length counts
  pub apart : (block other seat : ℕ) → seat_of seats block ≡ Some seat → seat_of seats other ≡ Some seat → block ≡ other
  pub all : seated seats ≡ length counts
  pub room : 251 ≤ capacity
