-- The squares of groups, and the Blocks over them, that come one after another among the numbers that are reckoned (this project's own).
use Rattle.std.specs.Prelude.{◌≡◌, ℕ, ◌+◌, ◌-◌, ◌<◌, ◌≤◌, List, Some, length, slice_get}
use Rattle.scr_sum_tree.specs.Blocks.{blocks_at}
use Rattle.scr_sum_tree.specs.declared.blocks.Level.TheVariants as levels
use Rattle.scr_block_graph.specs.Graph.{block_point}
use Rattle.scr_block_graph.specs.declared.sum.Sum.TheVariants as sums
use Rattle.scr_tree.specs.Ready.{StandsOn, numbers_on, square_number}
use Rattle.scr_tree.specs.Summed.{count_on}
use Rattle.scr_tree.specs.declared.basis.Basis.{Basis}

-- the square of the group in a row comes at a place of the numbers
abbrev pub IsSquareAtOn : Basis → ℕ → List ℕ → ℕ → Type 0
IsSquareAtOn b row numbers place =
    (row < length b.inputs.book.now.sheet.groups) × (slice_get numbers place ≡ Some (square_number b row))

-- From one place to another the squares of the groups come row by row, from that of the first group on: one at least, and as many as do.
pub record IsSquareRunOn (b : Basis) (numbers : List ℕ) (start end : ℕ) : Type 0 where
  pub some : start < end
  pub each : (row : ℕ) → start + row < end → IsSquareAtOn b row numbers (start + row)
  pub last : IsSquareAtOn b (end - start) numbers end → ⊥

-- a Block of the first level over the squares comes at a place of the numbers
abbrev pub IsBlockAtOn : Basis → ℕ → List ℕ → ℕ → Type 0
IsBlockAtOn b index numbers place =
    (index < blocks_at (count_on (numbers_on b) sums.Squares) levels.First)
    × (number : ℕ) × StandsOn b (block_point sums.Squares levels.First index) number × (slice_get numbers place ≡ Some number)

-- From one place to another the Blocks of the first level over the squares come, from the first on: as many as do.
pub record IsBlockRunOn (b : Basis) (numbers : List ℕ) (start end : ℕ) : Type 0 where
  pub on : start ≤ end
  pub each : (index : ℕ) → start + index < end → IsBlockAtOn b index numbers (start + index)
  pub last : IsBlockAtOn b (end - start) numbers end → ⊥
