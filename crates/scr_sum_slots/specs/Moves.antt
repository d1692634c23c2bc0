-- How slots move when parts are added and removed (own): no other part changes its slot, and undo needs no memory.
use Rattle.std.specs.Prelude.{◌≡◌, ◌≢◌, ℕ, ◌+◌, ◌≤◌, ◌^◌, ◌++◌, ◌∷◌, List, [], Some, length, reverse}
use Rattle.scr_sum_tree.specs.declared.blocks.Level.{Level}
use Rattle.scr_sum_tree.specs.declared.blocks.Level.TheVariants as levels
use Rattle.scr_sum_slots.specs.Parts.{FREE, Parted, NumberList, count_of, key_of, list_at, room_in, size_of, slot_of, slots_in}
use Rattle.scr_sum_slots.specs.declared.parts.Part.{Part}

-- Slots and room of each list together are at least what they were: no reserved memory was lost (own).
abbrev pub KeepsRoom : Parted → Parted → Type 0
KeepsRoom before now = (key : ℕ) → length (slots_in key before) + room_in key before ≤ length (slots_in key now) + room_in key now

-- The last slot of list `from` was popped and pushed to list `to`; nothing else changed (own).
pub record Moved (from to : ℕ) (before now : Parted) : Type 0 where
  pub slot : ℕ
  pub left : slots_in from before ≡ slots_in from now ++ slot ∷ []
  pub joined : slots_in to now ≡ slots_in to before ++ slot ∷ []
  pub others : (key : ℕ) → key ≢ from → key ≢ to → slots_in key now ≡ slots_in key before
  pub size : size_of now ≡ size_of before
  pub room : KeepsRoom before now

-- Every list has its slots and there are no more slots than before; only room may have grown (own).
pub record AreSame (before now : Parted) : Type 0 where
  pub slots : (key : ℕ) → slots_in key now ≡ slots_in key before
  pub size : size_of now ≡ size_of before
  pub room : KeepsRoom before now

-- One new slot was made and pushed to the free list (own).
pub record Made (before now : Parted) : Type 0 where
  pub slots : slots_in FREE now ≡ slots_in FREE before ++ size_of before ∷ []
  pub others : (key : ℕ) → key ≢ FREE → slots_in key now ≡ slots_in key before
  pub size : size_of now ≡ size_of before + 1
  pub room : KeepsRoom before now

-- Every part that was there keeps its slot (own).
abbrev pub KeepsParts : Parted → Parted → Type 0
KeepsParts before now = (part : Part) (slot : ℕ) → slot_of part before ≡ Some slot → slot_of part now ≡ Some slot

-- Every list but one keeps its number of parts on each level (own).
abbrev pub KeepsOthers : ℕ → Parted → Parted → Type 0
KeepsOthers list before now = (other : ℕ) (level : Level) → other ≢ list → count_of other level now ≡ count_of other level before

-- `longer` has further slots at the end of one list, and beside that differs at most in the free list (own). Every part of
-- `shorter` keeps its slot.
pub record IsFront (key : ℕ) (shorter longer : Parted) : Type 0 where
  pub more : length (slots_in key shorter) ≤ length (slots_in key longer)
  pub others : (other : ℕ) → other ≢ key → other ≢ FREE → slots_in other longer ≡ slots_in other shorter
  pub kept : KeepsParts shorter longer

-- One part was appended to a level of a list, and every other part keeps its slot (own).
abbrev pub Came : ℕ → Level → Parted → Parted → Type 0
Came list level before now = IsFront (key_of list level) before now × (count_of list level now ≡ count_of list level before + 1)

-- The last `many` slots of a list were popped one by one, each pushed to the free list (own). Read backwards: `many` parts were
-- appended, each with the slot freed last.
pub record Freed (key many : ℕ) (before now : Parted) : Type 0 where
  pub freed : List ℕ
  pub count : length freed ≡ many
  pub left : slots_in key before ≡ slots_in key now ++ reverse freed
  pub free : slots_in FREE now ≡ slots_in FREE before ++ freed
  pub others : (other : ℕ) → other ≢ key → other ≢ FREE → slots_in other now ≡ slots_in other before

-- The last `firsts` parts of a list's first level were removed, then the last `seconds` of its second (own).
pub record HaveGone (list firsts seconds : ℕ) (before now : Parted) : Type 0 where
  pub between : Parted
  pub one : Freed (key_of list levels.First) firsts before between
  pub two : Freed (key_of list levels.Second) seconds between now

-- ---- the lists alone

-- Only memory was added to the lists: each keeps its items and at least its room, and there are at most 2^32 lists if there were
-- (own).
pub record Roomier (before now : List NumberList) : Type 0 where
  pub slots : (key : ℕ) → (list_at key now).items ≡ (list_at key before).items
  pub room : (key : ℕ) → (list_at key before).room ≤ (list_at key now).room
  pub more : length before ≤ length now
  pub few : length before ≤ 2 ^ 32 → length now ≤ 2 ^ 32

-- Only the list of this key may have changed (own).
pub record AreOthers (key : ℕ) (before now : List NumberList) : Type 0 where
  pub lists : length now ≡ length before
  pub others : (other : ℕ) → other ≢ key → list_at other now ≡ list_at other before
