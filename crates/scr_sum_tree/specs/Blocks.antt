-- How a sum over a list is regrouped (own; a sum of whole numbers does not depend on how it is grouped). A Block of the first
-- level adds up 32 neighbouring members. One of the second level adds up 32 neighbouring Blocks of the first. At the top at most
-- 32 are left, if the list has no more than 32,768 members.
use Rattle.std.specs.Prelude.{◌≢◌, ℕ, ◌+◌, ◌*◌, ◌/◌, ◌<◌, Bool, List, drop, if◌then◌else◌, length, map, min, nat_le, nat_lt, slice_get, take}
use Rattle.std.specs.List.{range_with_len}
use Rattle.scr_sum_tree.specs.declared.blocks.Level.{Level}
use Rattle.scr_sum_tree.specs.declared.blocks.Level.TheVariants as levels

-- Part `i` (from 0) of a list: 32 neighbours, fewer at the end, none past it (own).
abbrev pub part : {X : Type 0} → ℕ → List X → List X
part i list = take 32 (drop (32 * i) list)

-- The number of parts of `count` neighbours: a 32nd, rounded up (own).
abbrev pub parts : ℕ → ℕ
parts count = (count + 31) / 32

-- The number of Blocks directly over `count` members or Blocks: one for each part, or 0 if they are at most 32 (own).
abbrev pub blocks_over : ℕ → ℕ
blocks_over count = if nat_lt 32 count then parts count else 0

-- The number of Blocks of a level over a list of `count` members; they are numbered from 0 (own).
abbrev pub blocks_at : ℕ → Level → ℕ
blocks_at count levels.First = blocks_over count
blocks_at count levels.Second = blocks_over (parts count)

-- There is a Block `i` directly over `count` members or Blocks (own).
abbrev pub is_block_over : ℕ → ℕ → Bool
is_block_over count i = nat_lt i (blocks_over count)

-- A list of `count` members has Block `i` on this level (own).
abbrev pub is_block : ℕ → Level → ℕ → Bool
is_block count levels.First i = is_block_over count i
is_block count levels.Second i = is_block_over (parts count) i

-- The number of members or Blocks that the whole sum over `count` members adds up (own).
abbrev pub top_count : ℕ → ℕ
top_count count = if nat_le count 32 then count else (if nat_le (parts count) 32 then parts count else parts (parts count))

-- The number of members under a full Block of a level, 32 or 1,024 (own).
abbrev pub width : Level → ℕ
width levels.First = 32
width levels.Second = 1024

-- The Block of a level that spans a position of the list (own).
abbrev pub block_of : Level → ℕ → ℕ
block_of level place = place / width level

-- The first position that a Block of a list of `count` members spans; `count` if the Block is past the end (own).
abbrev pub start_of : ℕ → Level → ℕ → ℕ
start_of count level i = min count (width level * i)

-- The end of the positions that a Block of a list of `count` members spans, itself excluded (own).
abbrev pub end_of : ℕ → Level → ℕ → ℕ
end_of count level i = min count (width level * i + width level)

-- The first-level Blocks over `count` members, as nodes (own).
abbrev pub firsts : {Node : Type 0} → (Level → ℕ → Node) → ℕ → List Node
firsts block count = map (block levels.First) (range_with_len 0 (parts count))

-- The second-level Blocks over `count` members, as nodes (own).
abbrev pub seconds : {Node : Type 0} → (Level → ℕ → Node) → ℕ → List Node
seconds block count = map (block levels.Second) (range_with_len 0 (parts (parts count)))

module _ {Name Node : Type 0} (member : Name → Node) (block : Level → ℕ → Node) where
  -- The nodes that the whole sum adds up: members, or the Blocks of the first level, or of the second (own).
  abbrev pub tops : List Name → List Node
  tops list =
      if nat_le (length list) 32 then map member list
      else (if nat_le (parts (length list)) 32 then firsts block (length list) else seconds block (length list))

  -- The nodes that all Blocks of a level add up together: all members, or all Blocks of the first level (own).
  abbrev pub below : List Name → Level → List Node
  below list levels.First = map member list
  below list levels.Second = firsts block (length list)

  -- The nodes that one Block adds up (own).
  abbrev pub block_sources : List Name → Level → ℕ → List Node
  block_sources list levels.First i = part i (map member list)
  block_sources list levels.Second i = part i (firsts block (length list))

-- No entry occurs twice in the list (own).
abbrev pub HasEachOnce : {X : Type 0} → List X → Type 0
HasEachOnce list = (j k : ℕ) → j < k → k < length list → slice_get list j ≢ slice_get list k
