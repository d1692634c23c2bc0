-- Parts and their slots (own). A part is 32 neighbouring members of a list (first level) or 32 neighbouring first-level parts
-- (second level). Parts are numbered from 0 on each level of a list. Each has a slot, an index that it keeps while it exists.
use Rattle.std.specs.Prelude.{◌≡◌, ℕ, ◌+◌, ◌-◌, ◌*◌, ◌/◌, ◌%◌, ◌<◌, ◌==◌, List, [], Option, Some, None, if◌then◌else◌, length, slice_get, slice_index_or}
use Rattle.std.specs.Option.{option_and_then}
use Rattle.scr_sum_tree.specs.declared.blocks.Level.{Level}
use Rattle.scr_sum_tree.specs.declared.blocks.Level.TheVariants as levels
use Rattle.scr_sum_slots.specs.declared.parts.Owner.{Owner}
use Rattle.scr_sum_slots.specs.declared.parts.Part.{Part}

-- The largest length of a list, 2^32 - 1 (own).
abbrev pub MOST : ℕ
MOST = 4_294_967_295

-- A list of numbers, and how many further ones fit without new memory (own).
pub record NumberList : Type 0 where
  pub items : List ℕ
  pub room : ℕ

-- Lists of slots by key, the free list first, and for each slot an owner entry: the key of its list and its position there (own).
pub record Parted : Type 0 where
  pub lists : List NumberList
  pub owner : List Owner

-- The empty list, without room (own).
abbrev pub no_numbers : NumberList
no_numbers = record { items = []; room = 0 }

-- The list of a key; the empty one if there is none (own).
abbrev pub list_at : ℕ → List NumberList → NumberList
list_at key lists = slice_index_or lists key no_numbers

-- The owner entry of a slot; the start of the free list if there is no such slot (own).
abbrev pub owner_at : ℕ → List Owner → Owner
owner_at slot owner = slice_index_or owner slot (record { list = 0; index = 0 })

-- The slots in the list of a key (own).
abbrev pub slots_in : ℕ → Parted → List ℕ
slots_in key parts = (list_at key parts.lists).items

-- How many further slots the list of a key takes without new memory (own).
abbrev pub room_in : ℕ → Parted → ℕ
room_in key parts = (list_at key parts.lists).room

-- The slot at a position of the list of a key; 0 past the end (own).
abbrev pub slot_at : ℕ → ℕ → Parted → ℕ
slot_at key place parts = slice_index_or (slots_in key parts) place 0

-- The number of slots, free ones included (own).
abbrev pub size_of : Parted → ℕ
size_of parts = length parts.owner

-- The key of the free list (own).
abbrev pub FREE : ℕ
FREE = 0

-- The key of the slots of a list's parts on one level: odd keys for the first level, even ones for the second (own).
abbrev pub key_of : ℕ → Level → ℕ
key_of list levels.First = 2 * list + 1
key_of list levels.Second = 2 * list + 2

-- The slots of a list's parts on one level, in the order of the parts (own).
abbrev pub slots_of : ℕ → Level → Parted → List ℕ
slots_of list level parts = slots_in (key_of list level) parts

-- The number of parts of a list on one level (own).
abbrev pub count_of : ℕ → Level → Parted → ℕ
count_of list level parts = length (slots_of list level parts)

-- The slot of a part; `None` if the list has no such part (own).
abbrev pub slot_of : Part → Parted → Option ℕ
slot_of part parts = slice_get (slots_of part.list part.level parts) part.index

-- The part that an owner entry names; `None` if the entry is of the free list (own).
abbrev pub part_of : Owner → Option Part
part_of owner =
    if owner.list == 0 then None
    else Some (record {
      list = (owner.list - 1) / 2;
      level = if (owner.list - 1) % 2 == 0 then levels.First else levels.Second;
      index = owner.index;
    })

-- The part that has a slot; `None` if the slot is free or there is none such (own).
abbrev pub part_at : ℕ → Parted → Option Part
part_at slot parts = option_and_then part_of (slice_get parts.owner slot)

-- Parts and slots in use correspond one to one (own): each part leads to its slot and back.
pub record AreOwn (parts : Parted) : Type 0 where
  pub own : (part : Part) (slot : ℕ) → slot_of part parts ≡ Some slot → part_at slot parts ≡ Some part
  pub back : (slot : ℕ) (part : Part) → part_at slot parts ≡ Some part → slot_of part parts ≡ Some slot
  pub within : (part : Part) (slot : ℕ) → slot_of part parts ≡ Some slot → slot < size_of parts
