-- How lists gain and lose parts with their members, and parts their ids (own).
use Rattle.std.specs.Prelude.{◌≡◌, ◌≢◌, ◌⊎◌, ℕ, zero, suc, ◌+◌, ◌-◌, ◌<◌, ◌≤◌, ◌^◌, length, max, min}
use Rattle.scr_sum_tree.specs.Blocks.{blocks_at}
use Rattle.scr_sum_tree.specs.declared.blocks.Level.{Level}
use Rattle.scr_sum_tree.specs.declared.blocks.Level.TheVariants as levels
use Rattle.scr_ids.specs.Moves.{IsSameBut}
use Rattle.scr_ids.specs.Ranges.{Numbered as Ranges, count, first}
use Rattle.scr_ids.specs.declared.table.Table.TheVariants as ranged
use Rattle.scr_sum_slots.specs.Firsts.{FirstLists, firsts_in}
use Rattle.scr_sum_slots.specs.Following.{AreSeatsOf}
use Rattle.scr_sum_slots.specs.Moves.{HaveGone, KeepsOthers, KeepsParts, KeepsRoom}
use Rattle.scr_sum_slots.specs.Parts.{Parted, count_of, key_of, room_in, slots_in}
use Rattle.scr_member_lists.specs.Seatings.{NOWHERE, roll_in}
use Rattle.scr_member_lists.specs.declared.seats.Seats.{Seats}
use Rattle.scr_sheet.specs.declared.keys.Table.{Table}
use Rattle.scr_member_index.specs.Lists.{list_in}

-- A list gained the parts that it lacked for `members` members, and lost none (own).
abbrev pub IsGrown : (list members : ℕ) → (before now : Parted) → Type 0
IsGrown list members before now = (level : Level) → count_of list level now ≡ max (count_of list level before) (blocks_at members level)

-- Every list of a table gained the parts that it lacked for its members; lists of other tables keep their number of parts (own).
pub record AreGrown (table : Table) (firsts : FirstLists) (before now : Parted) : Type 0 where
  pub own : (number : ℕ) → IsGrown (list_in table number) (length (firsts_in number firsts)) before now
  pub others : (list : ℕ) → ((number : ℕ) → list ≢ list_in table number) → (level : Level) → count_of list level now ≡ count_of list level before

-- Slots may have gained rows of ids; every range that was there keeps its ids (own).
pub record HasMoreParts (before now : Ranges) : Type 0 where
  pub others : IsSameBut ranged.Part before now
  pub rows : count before ranged.Part ≤ count now ranged.Part
  pub size : before.size ≤ now.size
  pub firsts : (k : ℕ) → k < count before ranged.Part → first now ranged.Part k ≡ first before ranged.Part k

-- ---- the lists of a row's seats

-- Every list of the table has exactly one part for each Block (own).
abbrev pub HavePartsAt : Table → FirstLists → Parted → Type 0
HavePartsAt table firsts parts = (number : ℕ) (level : Level) → count_of (list_in table number) level parts ≡ blocks_at (length (firsts_in number firsts)) level

-- In this seat the row joins a list that did not hold it (own).
pub record Comes (was now : Seats) (seat : ℕ) : Type 0 where
  pub real : roll_in seat now ≢ NOWHERE
  pub new : roll_in seat was ≢ roll_in seat now

-- Every list that the row joins, in a seat below `seats`, has the parts for one further member; every other list keeps its number
-- of parts (own).
pub record AreExtended (table : Table) (firsts : FirstLists) (was now : Seats) (seats : ℕ) (old new : Parted) : Type 0 where
  pub own : (seat : ℕ) → seat < seats → Comes was now seat
      → IsGrown (list_in table (roll_in seat now)) (length (firsts_in (roll_in seat now) firsts) + 1) old new
  pub others : (list : ℕ) → ((seat : ℕ) → seat < seats → Comes was now seat → list ≢ list_in table (roll_in seat now))
      → (level : Level) → count_of list level new ≡ count_of list level old

-- A list lost the parts that `members` members do not need, and gained none (own).
abbrev pub IsCut : (list members : ℕ) → (before now : Parted) → Type 0
IsCut list members before now = (level : Level) → count_of list level now ≡ min (count_of list level before) (blocks_at members level)

-- Every list that holds the row, in a seat below `seats`, lost the parts that its members do not need; every other list keeps its
-- number of parts (own).
pub record AreCut (table : Table) (firsts : FirstLists) (at : Seats) (seats : ℕ) (old new : Parted) : Type 0 where
  pub own : (seat : ℕ) → seat < seats → roll_in seat at ≢ NOWHERE
      → IsCut (list_in table (roll_in seat at)) (length (firsts_in (roll_in seat at) firsts)) old new
  pub others : (list : ℕ) → ((seat : ℕ) → seat < seats → roll_in seat at ≢ NOWHERE → list ≢ list_in table (roll_in seat at))
      → (level : Level) → count_of list level new ≡ count_of list level old

-- Every list has its old number of parts, each with its old slot (own).
pub record AreSameParts (before now : Parted) : Type 0 where
  pub counts : (list : ℕ) (level : Level) → count_of list level now ≡ count_of list level before
  pub kept : KeepsParts before now

-- ---- parts that can be restored

-- Every list of slots, the free list too, is as before (own).
abbrev pub AreSameSlots : Parted → Parted → Type 0
AreSameSlots before now = (key : ℕ) → slots_in key now ≡ slots_in key before

-- The last parts of a list were removed, their slots pushed to the free list in that order (own). A list whose number is 2^31 or
-- more had none.
pub record HasLost (list : ℕ) (before now : Parted) : Type 0 where
  pub gone : HaveGone list (count_of list levels.First before - count_of list levels.First now)
      (count_of list levels.Second before - count_of list levels.Second now) before now
  pub fewer : (level : Level) → count_of list level now ≤ count_of list level before
  pub others : KeepsOthers list before now
  pub small : 2 ^ 31 ≤ list → (level : Level) → count_of list level before ≡ 0

-- The list that holds the row in this seat lost its last parts; nothing changed if the seat is free (own).
abbrev pub HasLostIn : Table → Seats → (seat : ℕ) → Parted → Parted → Type 0
HasLostIn table at seat before now =
    ((roll_in seat at ≡ NOWHERE) × AreSameSlots before now) ⊎ ((roll_in seat at ≢ NOWHERE) × HasLost (list_in table (roll_in seat at)) before now)

-- The lists of the row's seats 0 to `seats` - 1 lost their last parts, seat by seat (own).
abbrev pub HaveLost : Table → Seats → (seats : ℕ) → Parted → Parted → Type 0
HaveLost table at zero before now = AreSameSlots before now
HaveLost table at (suc seat) before now = (between : Parted) × HaveLost table at seat before between × HasLostIn table at seat between now

-- A list can get its parts for `members` members back without memory, each with its old slot (own).
pub record CanRegain (list members : ℕ) (before now : Parted) : Type 0 where
  pub lost : HasLost list before now
  pub counts : (level : Level) → count_of list level before ≡ blocks_at members level
  pub room : (level : Level) → blocks_at members level ≤ count_of list level now + room_in (key_of list level) now

-- Every list that holds the row can get its parts back without memory, each with its old slot (own).
pub record CanRegainAll (table : Table) (firsts : FirstLists) (at : Seats) (before now : Parted) : Type 0 where
  pub seat_of : ℕ → ℕ
  pub own : AreSeatsOf seat_of at
  pub lost : HaveLost table at 11 before now
  pub counts : (seat : ℕ) → seat < 11 → roll_in seat at ≢ NOWHERE
      → (level : Level) → count_of (list_in table (roll_in seat at)) level before ≡ blocks_at (length (firsts_in (roll_in seat at) firsts)) level
  pub room : KeepsRoom before now
