-- The ids of Blocks (own): each part of a member list has a row of ids, one for each sum that runs over the list. So Blocks of two
-- sums over one list, which span equal members, stand in one row.
use Rattle.std.specs.Prelude.{◌≡◌, ℕ, ◌+◌, ◌*◌, ◌<◌, ◌≤◌, ◌==◌, ◌&&◌, Option, Some, None, if◌then◌else◌, length}
use Rattle.scr_sum_tree.specs.Blocks.{blocks_at}
use Rattle.scr_sum_tree.specs.declared.blocks.Level.{Level}
use Rattle.scr_ids.specs.Ranges.{IsAt, Numbered, count, first}
use Rattle.scr_ids.specs.declared.table.Table.TheVariants as numbered_tables
use Rattle.scr_sum_slots.specs.Parts.{Parted, count_of, slot_of}
use Rattle.scr_sum_slots.specs.Moves.{KeepsParts}
use Rattle.scr_sum_slots.specs.declared.parts.Part.{Part}
use Rattle.scr_sheet.specs.Members.{is_of_class, table_of}
use Rattle.scr_sheet.specs.declared.keys.Table.{Table}
use Rattle.scr_sheet.specs.declared.keys.Table.TheVariants as tables
use Rattle.scr_sheet.specs.declared.roll.Roll.{Roll}
use Rattle.scr_sheet.specs.declared.roll.Roll.TheVariants as rolls
use Rattle.scr_sheet.specs.declared.rows.Class.TheVariants as classes
use Rattle.scr_sheet.specs.declared.rows.LiabilityKind.TheVariants as kinds
use Rattle.scr_nodes.specs.declared.node.Biometric.TheVariants as biometrics
use Rattle.scr_nodes.specs.declared.node.Direction.TheVariants as directions
use Rattle.scr_nodes.specs.declared.node.Node.{Node}
use Rattle.scr_block_graph.specs.Graph.{Rolled}
use Rattle.scr_block_graph.specs.Sums.{roll_of}
use Rattle.scr_block_graph.specs.declared.point.Block.{Block}
use Rattle.scr_block_graph.specs.declared.point.Point.{Point}
use Rattle.scr_block_graph.specs.declared.point.Point.TheVariants as points
use Rattle.scr_block_graph.specs.declared.sum.Sum.{Sum}
use Rattle.scr_block_graph.specs.declared.sum.Sum.TheVariants as sums

-- The index of a sum among the sums over its list, 0 to 2 (own).
abbrev pub place_of : Sum → ℕ
place_of (sums.Rates currency directions.Down) = 1
place_of (sums.Costs currency directions.Down) = 1
place_of (sums.Presents currency) = 2
place_of sums.Spreads = 1
place_of sum = 0

-- ---- member lists by number

-- The list itself, with the list of all bonds counted as the list of the class of bonds (own).
abbrev pub sole : Roll → Roll
sole rolls.Bonds = rolls.Class classes.Bond
sole roll = roll

-- Two lists of one table have two numbers (own). A list has a number once it has had a member.
pub record AreListsApart (numbers : Roll → Option ℕ) : Type 0 where
  pub apart : (one other : Roll) (number : ℕ) → numbers one ≡ Some number → numbers other ≡ Some number
      → table_of one ≡ table_of other → sole one ≡ sole other

-- The index of a table among the four that have lists, 0 to 3 (own).
abbrev pub table_place : Table → ℕ
table_place tables.Security = 0
table_place tables.Liability = 1
table_place tables.Fund = 2
table_place table = 3

-- The number of a list among all tables, from its number among the lists of its own table (own).
abbrev pub list_number : Roll → ℕ → ℕ
list_number roll number = 4 * number + table_place (table_of roll)

-- The sum with index `place` over a list; `None` if no sum has it (own). The list of all bonds has the sums of the class of bonds.
abbrev pub sum_at : Roll → ℕ → Option Sum
sum_at (rolls.Class class) place =
    if place == 0 then Some (sums.Class class) else (if is_of_class classes.Bond class && (place == 1) then Some sums.Spreads else None)
sum_at rolls.Bonds place = if place == 0 then Some (sums.Class classes.Bond) else (if place == 1 then Some sums.Spreads else None)
sum_at rolls.Closed place = if place == 0 then Some sums.Closed else None
sum_at rolls.Grouped place = if place == 0 then Some sums.Grouped else None
sum_at (rolls.Group name) place = if place == 0 then Some (sums.Group name) else None
sum_at (rolls.Assets currency) place = if place == 0 then Some (sums.Assets currency) else None
sum_at (rolls.Flows currency) place =
    if place == 0 then Some (sums.Rates currency directions.Up) else (if place == 1 then Some (sums.Rates currency directions.Down) else None)
sum_at (rolls.Lines currency) place =
    if place == 0 then Some (sums.Costs currency directions.Up)
    else (if place == 1 then Some (sums.Costs currency directions.Down) else (if place == 2 then Some (sums.Presents currency) else None))
sum_at (rolls.Losses kinds.Life projection) place = if place == 0 then Some (sums.Losses biometrics.Life projection) else None
sum_at (rolls.Losses kinds.Health projection) place = if place == 0 then Some (sums.Losses biometrics.Health projection) else None
sum_at (rolls.Losses kinds.Other projection) place = None
sum_at rolls.Groups place = if place == 0 then Some sums.Squares else None

-- The sum runs over the list with number `list` among all tables, and `place` is its index there (own).
pub record SumAt (numbers : Roll → Option ℕ) (sum : Sum) (list place : ℕ) : Type 0 where
  pub roll : ℕ
  pub numbered : numbers (roll_of sum) ≡ Some roll
  pub listed : list ≡ list_number (roll_of sum) roll
  pub placed : place ≡ place_of sum

-- ---- Blocks by number

-- The part that a Block spans, of the list with this number in its table (own).
abbrev pub part_of : ℕ → Block → Part
part_of number block = record { list = list_number (roll_of block.sum) number; level = block.level; index = block.index }

-- The Block has id `number`: the one for its sum in the row of its part's slot (own).
pub record BlockAt (numbers : Roll → Option ℕ) (parts : Parted) (places : Numbered) (block : Block) (number : ℕ) : Type 0 where
  pub roll : ℕ
  pub numbered : numbers (roll_of block.sum) ≡ Some roll
  pub slot : ℕ
  pub part : slot_of (part_of roll block) parts ≡ Some slot
  pub at : IsAt places numbered_tables.Part slot (place_of block.sum) number

-- The point has id `number`: a figure by the relation `At`, a Block by its part (own).
abbrev pub PointAt : (Node → ℕ → Type 0) → (Roll → Option ℕ) → Parted → Numbered → Point → ℕ → Type 0
PointAt At numbers parts places (points.Figure node) number = At node number
PointAt At numbers parts places (points.Block block) number = BlockAt numbers parts places block number

-- No id of a figure is in a row of a part's ids (own).
abbrev pub AreOffParts : (Node → ℕ → Type 0) → Numbered → Type 0
AreOffParts At places = (node : Node) (number : ℕ) → At node number → (k j : ℕ) → IsAt places numbered_tables.Part k j number → ⊥

-- Each list of more than 32 members has a number (own). Each numbered list has one part for each Block, and each part's slot has a
-- row of ids.
pub record HaveParts (book : Rolled) (numbers : Roll → Option ℕ) (parts : Parted) (places : Numbered) : Type 0 where
  pub numbered : (roll : Roll) → 32 < length (book.rolls roll) → (number : ℕ) × (numbers roll ≡ Some number)
  pub counts : (roll : Roll) (number : ℕ) → numbers roll ≡ Some number → (level : Level)
      → count_of (list_number roll number) level parts ≡ blocks_at (length (book.rolls roll)) level
  pub rows : (part : Part) (slot : ℕ) → slot_of part parts ≡ Some slot → slot < count places numbered_tables.Part

-- Lists keep their numbers, parts their slots, and rows of ids their ids; further ones may have come (own).
pub record KeepsBlocks (numbers_before numbers_now : Roll → Option ℕ) (before now : Parted) (old new : Numbered) : Type 0 where
  pub numbers : (roll : Roll) (number : ℕ) → numbers_before roll ≡ Some number → numbers_now roll ≡ Some number
  pub parts : KeepsParts before now
  pub rows : count old numbered_tables.Part ≤ count new numbered_tables.Part
  pub firsts : (k : ℕ) → k < count old numbered_tables.Part → first new numbered_tables.Part k ≡ first old numbered_tables.Part k
