-- The reader of a member or Block (own): the Block above that adds it up, or the whole sum if there is none. It is the converse of
-- the nodes that a Block or the whole sum adds up.
use Rattle.std.specs.Prelude.{◌≡◌, ℕ, ◌/◌, true, List, if◌then◌else◌, nat_le}
use Rattle.scr_sum_tree.specs.Blocks.{is_block, parts, tops, block_sources}
use Rattle.scr_sum_tree.specs.declared.blocks.Level.{Level}
use Rattle.scr_sum_tree.specs.declared.blocks.Level.TheVariants as levels
use Rattle.scr_sum_tree.specs.declared.readers.Reader.{Reader}
use Rattle.scr_sum_tree.specs.declared.readers.Reader.TheVariants as readers

-- The reader of the member at `place` of `count` (own).
abbrev pub reader_of_member : ℕ → ℕ → Reader
reader_of_member count place = if nat_le count 32 then readers.Whole else readers.Block levels.First (place / 32)

-- The reader of a Block of a list of `count` members (own).
abbrev pub reader_of_block : ℕ → Level → ℕ → Reader
reader_of_block count levels.First i = if nat_le (parts count) 32 then readers.Whole else readers.Block levels.Second (i / 32)
reader_of_block count levels.Second i = readers.Whole

-- A list of `count` members has this reader: the whole sum always, a Block if the list has it (own).
abbrev pub IsReader : ℕ → Reader → Type 0
IsReader count readers.Whole = Unit {0}
IsReader count (readers.Block level i) = is_block count level i ≡ true

-- The nodes that a reader adds up (own).
abbrev pub added_by : {Name Node : Type 0} → (Name → Node) → (Level → ℕ → Node) → List Name → Reader → List Node
added_by member block list readers.Whole = tops member block list
added_by member block list (readers.Block level i) = block_sources member block list level i

-- Members and Blocks are distinct nodes: no two members, no two Blocks, and no member and Block share one (own).
pub record AreApart {Name Node : Type 0} (member : Name → Node) (block : Level → ℕ → Node) : Type 0 where
  pub members : (a b : Name) → member a ≡ member b → a ≡ b
  pub firsts : (i j : ℕ) → block levels.First i ≡ block levels.First j → i ≡ j
  pub seconds : (i j : ℕ) → block levels.Second i ≡ block levels.Second j → i ≡ j
  pub apart : (i j : ℕ) → block levels.First i ≡ block levels.Second j → ⊥
  pub others : (a : Name) (level : Level) (i : ℕ) → member a ≡ block level i → ⊥
