-- How first ids and parts beside the lists follow the row of a record, and how that is undone (own).
use Rattle.std.specs.Prelude.{◌≡◌, ◌≢◌, ℕ, ◌<◌, length}
use Rattle.scr_sum_tree.specs.declared.blocks.Level.{Level}
use Rattle.scr_member_lists.specs.Seatings.{NOWHERE, place_in, roll_in}
use Rattle.scr_sum_slots.specs.Firsts.{FirstLists, first_at, firsts_in}
use Rattle.scr_sum_slots.specs.Following.{AreSeatsOf, HasFollowed, KeepsRoomBeside}
use Rattle.scr_sum_slots.specs.Moves.{KeepsParts, KeepsRoom}
use Rattle.scr_sum_slots.specs.Parts.{Parted, count_of}
use Rattle.scr_sheet.specs.declared.keys.Table.{Table}
use Rattle.scr_member_index.specs.Lists.{HasLists, firsts_at, list_in}
use Rattle.scr_member_index.specs.Parting.{AreExtended, AreSameParts, HaveLost, HavePartsAt}
use Rattle.scr_member_index.specs.declared.lists.Lists.{Lists}
use Rattle.scr_member_index.specs.declared.standing.Move.{Move}

-- The move fits what stands beside the lists (own). The row's first id is at the old positions that its seats name. In lists that
-- it joins its position is the end. And each list has one part for each Block.
pub record CanMove (move : Move) (firsts : FirstLists) (parted : Parted) : Type 0 where
  pub seat_of : ℕ → ℕ
  pub few : (list : ℕ) → seat_of list < 11
  pub before : AreSeatsOf seat_of move.before
  pub after : AreSeatsOf seat_of move.after
  pub there : (seat : ℕ) → seat < 11 → roll_in seat move.before ≢ NOWHERE → roll_in seat move.before ≢ roll_in seat move.after
      → place_in seat move.before < length (firsts_in (roll_in seat move.before) firsts)
  pub own : (seat : ℕ) → seat < 11 → roll_in seat move.before ≢ NOWHERE → roll_in seat move.before ≢ roll_in seat move.after
      → first_at (place_in seat move.before) (firsts_in (roll_in seat move.before) firsts) ≡ move.first
  pub place : (seat : ℕ) → seat < 11 → roll_in seat move.after ≢ NOWHERE → roll_in seat move.before ≢ roll_in seat move.after
      → place_in seat move.after ≡ length (firsts_in (roll_in seat move.after) firsts)
  pub parts : HavePartsAt move.table firsts parted

-- The row's first id moved with its seats, and the lists of the table have one part for each Block (own). Lists of other tables
-- keep their number of parts.
pub record HasMoved (move : Move) (was now : FirstLists) (old new : Parted) : Type 0 where
  pub firsts : (seat_of : ℕ → ℕ) → AreSeatsOf seat_of move.before → AreSeatsOf seat_of move.after
      → HasFollowed seat_of move.before move.after move.first was now
  pub parts : HavePartsAt move.table now new
  pub others : (list : ℕ) → ((number : ℕ) → list ≢ list_in move.table number) → (level : Level) → count_of list level new ≡ count_of list level old

-- The row moved, and all that undo needs without memory is at hand (own): freed slots in order, and room in the lists that shrank.
pub record CanTakeBack (move : Move) (was now : FirstLists) (old new : Parted) : Type 0 where
  pub can : CanMove move was old
  pub moved : HasMoved move was now old new
  pub between : Parted
  pub extended : AreExtended move.table was move.before move.after 11 old between
  pub kept : KeepsParts old between
  pub lost : HaveLost move.table move.before 11 between new
  pub room : KeepsRoom between new
  pub beside : KeepsRoomBeside was now

-- First ids and parts are as before, each part with its old slot (own).
pub record IsStill (was now : FirstLists) (old new : Parted) : Type 0 where
  pub firsts : (list : ℕ) → firsts_in list now ≡ firsts_in list was
  pub parts : AreSameParts old new

-- The row's table has member lists, and the move fits what stands beside them (own).
abbrev pub CanFollow : Move → Lists → Type 0
CanFollow move lists = HasLists move.table × CanMove move (firsts_at move.table lists) lists.parts

-- First ids and parts of the row's table followed the move; first ids of other tables stay (own).
pub record AreFollowed (move : Move) (old new : Lists) : Type 0 where
  pub own : HasMoved move (firsts_at move.table old) (firsts_at move.table new) old.parts new.parts
  pub elsewhere : (table : Table) → HasLists table → table ≢ move.table → firsts_at table new ≡ firsts_at table old

-- The move was followed and can be undone without memory; first ids of other tables stayed (own).
pub record CanBeTakenBack (move : Move) (old new : Lists) : Type 0 where
  pub has : HasLists move.table
  pub own : CanTakeBack move (firsts_at move.table old) (firsts_at move.table new) old.parts new.parts
  pub elsewhere : (table : Table) → HasLists table → table ≢ move.table → firsts_at table new ≡ firsts_at table old

-- First ids of all tables and all parts are as before, each part with its old slot (own).
pub record AreStill (old new : Lists) : Type 0 where
  pub firsts : (table : Table) → HasLists table → (list : ℕ) → firsts_in list (firsts_at table new) ≡ firsts_in list (firsts_at table old)
  pub parts : AreSameParts old.parts new.parts
