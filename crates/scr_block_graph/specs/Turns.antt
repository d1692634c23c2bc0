-- A large sum before and after a record, and the Blocks under it that change (own).
use Rattle.std.specs.Prelude.{ℕ, ◌+◌, ◌-◌, ◌<◌, ◌≤◌, ◌==◌, Bool, true, false, List, [], length}
use Rattle.std.specs.List.{position_or_len, range_with_len}
use Rattle.scr_tables.specs.Names.{same_name}
use Rattle.scr_sum_tree.specs.Blocks.{blocks_at, top_count}
use Rattle.scr_sum_tree.specs.ChangedBlocks.{coming, leaving}
use Rattle.scr_sum_tree.specs.declared.blocks.Level.{Level}
use Rattle.scr_sheet.specs.Members.{edit_name, is_member}
use Rattle.scr_sheet.specs.Records.{applied}
use Rattle.scr_sheet.specs.declared.edit.Edit.{Edit}
use Rattle.scr_block_graph.specs.Graph.{Rolled, reads, roll_in}
use Rattle.scr_block_graph.specs.Sums.{roll_of}
use Rattle.scr_block_graph.specs.declared.sum.Sum.{Sum}
use Rattle.scr_block_graph.specs.declared.turns.Step.{Step}
use Rattle.scr_block_graph.specs.declared.turns.Step.TheVariants as steps
use Rattle.scr_block_graph.specs.declared.turns.Turn.{Turn}

-- What a list does with a row, by whether the row was and is a member, and its position (own).
abbrev pub step_of : (was is : Bool) → ℕ → Step
step_of false true place = steps.Comes
step_of true false place = steps.Leaves place
step_of was is place = steps.Stays

-- A leaving member's position is below the number of members (own).
abbrev pub IsWithin : ℕ → Step → Type 0
IsWithin count (steps.Leaves place) = place < count
IsWithin count step = Unit {0}

-- The list has at most 20,000 members, the most rows of a table (own). A leaving member's position is below their number.
pub record IsSmall (turn : Turn) : Type 0 where
  pub few : turn.count ≤ 20000
  pub within : IsWithin turn.count turn.step

-- The number of members after the step (own).
abbrev pub count_after : ℕ → Step → ℕ
count_after count steps.Stays = count
count_after count steps.Comes = count + 1
count_after count (steps.Leaves place) = count - 1

-- The Blocks of a level that change by a step of `count` members, if the sum stays read (own).
abbrev pub changed_at : ℕ → Step → Level → List ℕ
changed_at count steps.Stays level = []
changed_at count steps.Comes level = coming count level
changed_at count (steps.Leaves place) level = leaving count place level

-- The Blocks of a level that change (own). If the sum is read only before or only after the record, they are all its Blocks at
-- that time.
abbrev pub changed_by : (was is : Bool) → ℕ → Step → Level → List ℕ
changed_by true true count step level = changed_at count step level
changed_by true false count step level = range_with_len 0 (blocks_at count level)
changed_by false true count step level = range_with_len 0 (blocks_at (count_after count step) level)
changed_by false false count step level = []

-- The Blocks of a level that change under a sum by a record (own).
abbrev pub changed_blocks : Turn → Level → List ℕ
changed_blocks turn level = changed_by turn.was_read turn.is_read turn.count turn.step level

-- The number of points at the top of the sum stays, and with it the points (own).
abbrev pub keeps_tops : Turn → Bool
keeps_tops turn = top_count turn.count == top_count (count_after turn.count turn.step)

-- The sum before and after the record (own): only the row of the record joins or leaves its list.
abbrev pub turn_of : Edit → Rolled → Sum → Turn
turn_of edit book sum = record {
  sum = sum;
  was_read = reads book.sheet sum;
  is_read = reads (applied edit book.sheet) sum;
  count = length (roll_in book sum);
  step = step_of (is_member (roll_of sum) (edit_name edit) book.sheet) (is_member (roll_of sum) (edit_name edit) (applied edit book.sheet))
      (position_or_len (same_name (edit_name edit)) (roll_in book sum));
}
