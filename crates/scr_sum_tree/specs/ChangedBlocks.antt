-- Which Blocks of a list change when a member is appended or swap-removed (own): Blocks that the list gains or loses, and Blocks
-- that add up other nodes than before.
use Rattle.std.specs.Prelude.{◌≡◌, ◌≢◌, ℕ, ◌+◌, ◌-◌, ◌/◌, ◌%◌, ◌<◌, ◌==◌, ◌&&◌, ◌||◌, Bool, IsTrue, List, [], ◌∷◌, if◌then◌else◌, length, nat_le, nat_lt, slice_get}
use Rattle.scr_sum_tree.specs.Blocks.{is_block, is_block_over, block_sources}
use Rattle.scr_sum_tree.specs.declared.blocks.Level.{Level}
use Rattle.scr_sum_tree.specs.declared.blocks.Level.TheVariants as levels

-- The member at `place` was swap-removed (own): the last takes its position, unless it is the last itself, and nothing else moves.
pub record Leaves {Name : Type 0} (place : ℕ) (before after : List Name) : Type 0 where
  pub within : place < length before
  pub fewer : length before ≡ length after + 1
  pub taken : place < length after → slice_get after place ≡ slice_get before (length after)
  pub kept : (k : ℕ) → k < length after → k ≢ place → slice_get after k ≡ slice_get before k

module _ {Name Node : Type 0} (member : Name → Node) (block : Level → ℕ → Node) (before after : List Name) (level : Level) (i : ℕ) where
  -- Both lists have the Block, or neither has it, and it adds up equal nodes (own).
  pub record IsSameBlock : Type 0 where
    pub live : is_block (length before) level i ≡ is_block (length after) level i
    pub sources : block_sources member block before level i ≡ block_sources member block after level i

  -- At least one of the lists has the Block, and the lists differ in it (own).
  pub record IsChangedBlock : Type 0 where
    pub live : IsTrue (is_block (length before) level i || is_block (length after) level i)
    pub changed : ¬ IsSameBlock

-- Block `i` directly over `count` neighbours changes when one is appended (own): the level begins with it, or it spans the new
-- position.
abbrev pub grew : ℕ → ℕ → Bool
grew count i = is_block_over (count + 1) i && ((count == 32) || (i == count / 32))

-- Block `i` of a level changes when a member is appended to `count` (own). On the second level it does only if the new member
-- begins a Block of the first.
abbrev pub came : ℕ → Level → ℕ → Bool
came count levels.First i = grew count i
came count levels.Second i = (count % 32 == 0) && grew (count / 32) i

-- Block `i` of a level changes when the member at `place` of `count` is swap-removed (own). On the first level, the level ends, or
-- the Block spans `place` or the last position. On the second it changes as if the last member were appended, since only the last
-- Block below comes or goes.
abbrev pub went : ℕ → ℕ → Level → ℕ → Bool
went count place levels.First i = is_block_over count i && ((count == 33) || ((i == place / 32) || (i == (count - 1) / 32)))
went count place levels.Second i = came (count - 1) levels.Second i

-- The Blocks directly over `count` neighbours that change when one is appended, each once (own).
abbrev pub grown : ℕ → List ℕ
grown count = if nat_lt count 32 then [] else (if count == 32 then 0 ∷ 1 ∷ [] else count / 32 ∷ [])

-- The Blocks of a level that change when a member is appended to `count`, each once (own).
abbrev pub coming : ℕ → Level → List ℕ
coming count levels.First = grown count
coming count levels.Second = if count % 32 == 0 then grown (count / 32) else []

-- The Blocks of a level that change when the member at `place` of `count` is swap-removed, each once (own).
abbrev pub leaving : ℕ → ℕ → Level → List ℕ
leaving count place levels.First =
    if nat_le count 32 then []
    else (if count == 33 then 0 ∷ 1 ∷ []
    else (if place / 32 == (count - 1) / 32 then place / 32 ∷ [] else place / 32 ∷ (count - 1) / 32 ∷ []))
leaving count place levels.Second = coming (count - 1) levels.Second
