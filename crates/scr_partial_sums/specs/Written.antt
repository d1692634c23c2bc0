-- The blocks of one sum over a list, stored under their ids (own).
use Rattle.std.specs.Prelude.{◌≡◌, ℕ, ◌+◌, ◌<◌, ◌≤◌, Bool, false, List, Some, length, map, slice_get}
use Rattle.std.specs.List.{list_any, range_with_len}
use Rattle.std.specs.Option.{option_map_or}
use Rattle.scr_sum_tree.specs.Blocks.{blocks_at, part}
use Rattle.scr_sum_tree.specs.declared.blocks.Level.{Level}
use Rattle.scr_sum_tree.specs.declared.blocks.Level.TheVariants as levels
use Rattle.scr_num.specs.Rounding.{Ends}
use Rattle.scr_num.specs.Sums.{sum_ends}
use Rattle.scr_num.specs.declared.span.Span.{Span}
use Rattle.scr_ids.specs.Ranges.{IsApart, IsWithin, count, first}
use Rattle.scr_ids.specs.declared.table.Table.TheVariants as tables
use Rattle.scr_sum_slots.specs.Parts.{AreOwn, count_of, key_of, slot_at, slot_of}
use Rattle.scr_sum_slots.specs.declared.parts.Part.{Part}
use Rattle.scr_partial_sums.specs.Figures.{ends_at, member_number, members_ends}
use Rattle.scr_partial_sums.specs.declared.figure.Figure.{Figure}
use Rattle.scr_partial_sums.specs.declared.writing.Subtotals.{Subtotals}

-- The id of block `i` of a level: the first id of its slot's row plus the sum's place `own` (own).
abbrev pub number_of : Subtotals → Level → ℕ → ℕ
number_of s level i = first s.places.now tables.Part (slot_at (key_of s.list level) i s.parts.now) + s.own

-- The blocks of the sum have ids (own). The list has at most 20,000 members, the most securities of a book, and one part for each
-- block. Each part's slot has a row of ids, and `own` (0 to 2) is the sum's place in it.
pub record AreNumbered (s : Subtotals) (members : ℕ) : Type 0 where
  pub own : s.own < 3
  pub few : members ≤ 20000
  pub parts : (level : Level) → count_of s.list level s.parts.now ≡ blocks_at members level
  pub rows : (one : Part) (slot : ℕ) → slot_of one s.parts.now ≡ Some slot → slot < count s.places.now tables.Part
  pub slots : AreOwn s.parts.now
  pub apart : IsApart s.places.now
  pub within : IsWithin s.places.now

-- The id is of no block of this sum (own).
abbrev pub AreOffBlocks : Subtotals → ℕ → ℕ → Type 0
AreOffBlocks s members number = (level : Level) (i : ℕ) → i < blocks_at members level → number ≡ number_of s level i → ⊥

-- A block's figure: its span, resting on no open choice (own).
abbrev pub block_figure : Span → Figure
block_figure span = record { span = span; close = false }

-- The figure with this id rests on an open choice; no if there is none (own).
abbrev pub is_open_at : List Figure → ℕ → Bool
is_open_at figures number = option_map_or (λ (figure : Figure). figure.close) (slice_get figures number) false

-- Figure `family` of some member rests on an open choice, for rows that begin at ids `firsts` (own).
abbrev pub any_open : List Figure → ℕ → List ℕ → Bool
any_open figures family firsts = list_any (λ first. is_open_at figures (member_number family first)) firsts

-- The sum of figure `family` over part `i` of the members (own).
abbrev pub part_ends : List Figure → ℕ → List ℕ → ℕ → Ends
part_ends figures family firsts i = sum_ends (members_ends figures family (part i firsts))

-- The ends of `many` blocks of a level, from block `from` on (own).
abbrev pub blocks_ends : List Figure → Subtotals → Level → ℕ → ℕ → List Ends
blocks_ends figures s level from many = map (λ i. ends_at figures (number_of s level i)) (range_with_len from many)

-- Some of these `many` blocks, from block `from` on, rests on an open choice (own).
abbrev pub any_block_open : List Figure → Subtotals → Level → ℕ → ℕ → Bool
any_block_open figures s level from many = list_any (λ i. is_open_at figures (number_of s level i)) (range_with_len from many)

-- The sum of the first-level blocks that second-level block `i` adds up (own).
abbrev pub second_ends : List Figure → Subtotals → ℕ → ℕ → Ends
second_ends figures s members i = sum_ends (part i (blocks_ends figures s levels.First 0 (blocks_at members levels.First)))

-- Every figure keeps its value but blocks 0 to `upto` - 1 of this level (own).
pub record AreOthers (s : Subtotals) (level : Level) (upto : ℕ) (old new : List Figure) : Type 0 where
  pub long : length new ≡ length old
  pub others : (number : ℕ) → ((i : ℕ) → i < upto → number ≡ number_of s level i → ⊥) → slice_get new number ≡ slice_get old number

-- Blocks 0 to `upto` - 1 of a level are worth what `worth` gives and rest on no open choice; every other figure stays (own).
pub record IsPut (s : Subtotals) (level : Level) (upto : ℕ) (worth : ℕ → Ends) (old new : List Figure) : Type 0 where
  pub kept : AreOthers s level upto old new
  pub there : (i : ℕ) → i < upto → ends_at new (number_of s level i) ≡ worth i
  pub settled : (i : ℕ) → i < upto → is_open_at new (number_of s level i) ≡ false
