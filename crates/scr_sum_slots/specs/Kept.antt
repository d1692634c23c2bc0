-- The stored form of slots (own): each is in one list, and its owner entry names that list and position.
use Rattle.std.specs.Prelude.{◌≡◌, ℕ, ◌+◌, ◌<◌, ◌≤◌, ◌^◌, List, length}
use Rattle.scr_sum_slots.specs.Parts.{FREE, MOST, Parted, owner_at, room_in, size_of, slot_at, slots_in}
use Rattle.scr_sum_slots.specs.declared.parts.Owner.{Owner}
use Rattle.scr_sum_slots.specs.declared.parts.Parts.TheInside.{Inside}

-- The owner entry of `slot` names this list and position (own).
pub record IsHeld (owner : List Owner) (key place slot : ℕ) : Type 0 where
  pub within : slot < length owner
  pub is : owner_at slot owner ≡ record { list = key; index = place }

-- The list and position that an owner entry names do hold the slot (own).
pub record IsListed (parts : Parted) (slot : ℕ) (owner : Owner) : Type 0 where
  pub within : owner.index < length (slots_in owner.list parts)
  pub is : slot_at owner.list owner.index parts ≡ slot

-- Lists of slots and owner entries are each the index of the other (own).
pub record AreKept (parts : Parted) : Type 0 where
  pub held : (key place : ℕ) → place < length (slots_in key parts) → IsHeld parts.owner key place (slot_at key place parts)
  pub listed : (slot : ℕ) → slot < size_of parts → IsListed parts slot (owner_at slot parts.owner)

-- What contracts see of the stored slots (own).
abbrev pub parted_of : Inside → Parted
parted_of parts = record { lists = parts.lists; owner = parts.owner.items }

-- The invariant of stored slots (own): lists and owner entries agree, and the free list has room for all slots. So freeing a slot
-- needs no memory.
pub record IsKept (parts : Inside) : Type 0 where
  pub lists : length parts.lists ≤ 2 ^ 32
  pub size : size_of (parted_of parts) ≤ MOST
  pub room : size_of (parted_of parts) ≤ length (slots_in FREE (parted_of parts)) + room_in FREE (parted_of parts)
  pub slots : AreKept (parted_of parts)
