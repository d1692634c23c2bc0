-- How the first ids beside the lists follow the seats of one row (own). The row leaves lists by swap-removal and joins at the
-- positions that its new seats name.
use Rattle.std.specs.Prelude.{◌≡◌, ◌≢◌, ◌⊎◌, ℕ, ◌+◌, ◌<◌, ◌≤◌, List, Option, Some, None, length}
use Rattle.scr_member_lists.specs.Seatings.{NOWHERE, place_in, roll_in, stood}
use Rattle.scr_member_lists.specs.declared.seats.Seats.{Seats}
use Rattle.scr_sum_slots.specs.Firsts.{FirstLists, back_at, firsts_in, left, room_beside}

-- The first ids beside one list after a row moved from position `was` to position `is` (own). A position is `None` if the row is
-- not in the list. A row that is in it before and after keeps its position.
abbrev pub reseated : (first : ℕ) → (was is : Option ℕ) → List ℕ → List ℕ
reseated first None (Some place) firsts = back_at place first firsts
reseated first (Some place) None firsts = left place firsts
reseated first was is firsts = firsts

-- Each list that the seats name is of the seat that names it (own).
abbrev pub AreSeatsOf : (seat_of : ℕ → ℕ) → Seats → Type 0
AreSeatsOf seat_of seats = (seat : ℕ) → seat < 11 → roll_in seat seats ≢ NOWHERE → seat_of (roll_in seat seats) ≡ seat

-- In this seat the row can move from `was` to `now` without new memory (own). If the list changes, the old position is in the old
-- list. The new position is within the new list or at its end, and there is room.
pub record CanReseat (was now : Seats) (seat : ℕ) (firsts : FirstLists) : Type 0 where
  pub there : roll_in seat was ≢ NOWHERE → roll_in seat was ≢ roll_in seat now → place_in seat was < length (firsts_in (roll_in seat was) firsts)
  pub place : roll_in seat now ≢ NOWHERE → roll_in seat was ≢ roll_in seat now → place_in seat now ≤ length (firsts_in (roll_in seat now) firsts)
  pub room : roll_in seat now ≢ NOWHERE → roll_in seat was ≢ roll_in seat now → 0 < room_beside (roll_in seat now) firsts

-- First ids and room beside each list together are at least what they were: no reserved memory was lost (own).
abbrev pub KeepsRoomBeside : FirstLists → FirstLists → Type 0
KeepsRoomBeside before now = (list : ℕ)
    → length (firsts_in list before) + room_beside list before ≤ length (firsts_in list now) + room_beside list now

-- The first ids followed the row in one seat, and nothing else changed (own).
pub record IsReseated (was now : Seats) (seat first : ℕ) (old new : FirstLists) : Type 0 where
  pub lists : (list : ℕ) → list ≢ NOWHERE
      → firsts_in list new ≡ reseated first (stood seat list was) (stood seat list now) (firsts_in list old)
  pub nowhere : firsts_in NOWHERE new ≡ firsts_in NOWHERE old
  pub room : KeepsRoomBeside old new

-- The first ids followed the row in all its seats (own).
pub record HasFollowed (seat_of : ℕ → ℕ) (was now : Seats) (first : ℕ) (old new : FirstLists) : Type 0 where
  pub lists : (list : ℕ) → list ≢ NOWHERE → seat_of list < 11
      → firsts_in list new ≡ reseated first (stood (seat_of list) list was) (stood (seat_of list) list now) (firsts_in list old)
  pub nowhere : firsts_in NOWHERE new ≡ firsts_in NOWHERE old

-- The first id at a position of one list was swap-removed, or none for `NOWHERE`; all other lists stay (own).
pub record HasLeft (list place : ℕ) (old new : FirstLists) : Type 0 where
  pub own : list ≢ NOWHERE → firsts_in list new ≡ left place (firsts_in list old)
  pub others : (other : ℕ) → (other ≢ list) ⊎ (list ≡ NOWHERE) → firsts_in other new ≡ firsts_in other old
  pub room : KeepsRoomBeside old new

-- The first id was put at a position of one list, or of none for `NOWHERE`; all other lists stay (own).
pub record HasCome (list place first : ℕ) (old new : FirstLists) : Type 0 where
  pub own : list ≢ NOWHERE → firsts_in list new ≡ back_at place first (firsts_in list old)
  pub others : (other : ℕ) → (other ≢ list) ⊎ (list ≡ NOWHERE) → firsts_in other new ≡ firsts_in other old
  pub room : KeepsRoomBeside old new
