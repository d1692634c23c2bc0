-- Member lists by number, and the seats of a table's rows (own). Each list is of one seat, 0 to 10. In each seat a row is a member
-- of at most one list. The seat stores that list's number and the row's position in it.
use Rattle.std.specs.Prelude.{◌≡◌, ◌≢◌, ◌⊎◌, ℕ, ◌+◌, ◌<◌, ◌≤◌, ◌==◌, List, [], Option, Some, None, false, if◌then◌else◌, insert, length, map, replicate, slice_get, slice_index_or}
use Rattle.std.specs.List.{position_or_len}
use Rattle.std.specs.Option.{option_map_or}
use Rattle.scr_tables.specs.Names.{same_name}
use Rattle.scr_tables.specs.Tables.{has_row, with_row}
use Rattle.scr_member_lists.specs.Members.{name_at}
use Rattle.scr_member_lists.specs.Rosters.{MOST}
use Rattle.scr_member_lists.specs.declared.seats.Seats.{Seats}
use Rattle.scr_member_lists.specs.declared.seating.Numbered.{Numbered}

-- The list number of a free seat, 2^32 - 1 (own).
abbrev pub NOWHERE : ℕ
NOWHERE = MOST

-- The eleven seats of a row that is a member of no list (own).
abbrev pub free : Seats
free = record { rolls = replicate 11 NOWHERE; places = replicate 11 0 }

-- The number of the list of which a row is a member in a seat; `NOWHERE` if the seat is free (own).
abbrev pub roll_in : ℕ → Seats → ℕ
roll_in seat seats = slice_index_or seats.rolls seat NOWHERE

-- The row's position in the list of a seat, counted from 0; without meaning if the seat is free (own).
abbrev pub place_in : ℕ → Seats → ℕ
place_in seat seats = slice_index_or seats.places seat 0

-- The member lists of a table by number, and the seats of its rows by position in the table (own). `room` is how many further rows
-- fit without new memory.
pub record Seated : Type 0 where
  pub rolls : List Numbered
  pub seats : List Seats
  pub room : ℕ

-- The seat of the list of this number; 0 if there is no such list (own).
abbrev pub seat_of : ℕ → List Numbered → ℕ
seat_of number rolls = option_map_or (λ (roll : Numbered). roll.seat) (slice_get rolls number) 0

-- The members of the list of this number; empty if there is no such list (own).
abbrev pub names_of : ℕ → List Numbered → List (List ℕ)
names_of number rolls = option_map_or (λ (roll : Numbered). roll.roster.names) (slice_get rolls number) []

-- How many further members the list of this number takes without new memory; 0 if there is no such list (own).
abbrev pub room_of : ℕ → List Numbered → ℕ
room_of number rolls = option_map_or (λ (roll : Numbered). roll.roster.room) (slice_get rolls number) 0

-- The seats of the row at a position of its table; free ones past the end (own).
abbrev pub seat_at : ℕ → List Seats → Seats
seat_at place seats = slice_index_or seats place free

-- The seats of the row of this name; free ones if no row has the name (own).
abbrev pub seats_of : List (List ℕ) → List Seats → List ℕ → Seats
seats_of names seats name = seat_at (position_or_len (same_name name) names) seats

-- The name is at position `place` of list `number`, which is of this seat (own).
pub record StandsAt (rolls : List Numbered) (name : List ℕ) (seat number place : ℕ) : Type 0 where
  pub numbered : number < length rolls
  pub own : seat_of number rolls ≡ seat
  pub within : place < length (names_of number rolls)
  pub named : name_at place (names_of number rolls) ≡ name

-- Lists and seats agree, each the index of the other (own). Each row of the table has seats. Each member's seat names its list and
-- its position there. Each seat that is not free names a list and position which hold the row.
pub record AreSeated (names : List (List ℕ)) (seated : Seated) : Type 0 where
  pub beside : length seated.seats ≡ length names
  pub few : length seated.rolls ≤ NOWHERE
  pub seats : (number : ℕ) → seat_of number seated.rolls < 11
  pub rolled : (number place : ℕ) → place < length (names_of number seated.rolls)
      → roll_in (seat_of number seated.rolls) (seats_of names seated.seats (name_at place (names_of number seated.rolls))) ≡ number
  pub placed : (number place : ℕ) → place < length (names_of number seated.rolls)
      → place_in (seat_of number seated.rolls) (seats_of names seated.seats (name_at place (names_of number seated.rolls))) ≡ place
  pub there : (name : List ℕ) (seat : ℕ) → roll_in seat (seats_of names seated.seats name) ≢ NOWHERE
      → StandsAt seated.rolls name seat (roll_in seat (seats_of names seated.seats name)) (place_in seat (seats_of names seated.seats name))

-- There are the lists that there were, each of its old seat; their members may differ (own).
pub record KeepsSeats (old new : List Numbered) : Type 0 where
  pub count : length new ≡ length old
  pub own : (number : ℕ) → seat_of number new ≡ seat_of number old

-- A row may have this number in the seat: `NOWHERE`, or the number of a list of that seat (own).
abbrev pub IsFor : List Numbered → ℕ → ℕ → Type 0
IsFor rolls seat number = (number ≡ NOWHERE) ⊎ ((number < length rolls) × (seat_of number rolls ≡ seat))

-- Members and room of each list together are at least what they were: no reserved memory was lost (own).
abbrev pub KeepsRoom : (old new : List Numbered) → Type 0
KeepsRoom old new = (number : ℕ)
    → length (names_of number old) + room_of number old ≤ length (names_of number new) + room_of number new

-- The list that a row is to join in a seat (own): the one that `rolls` names for it, or its present list if `rolls` ends before.
abbrev pub roll_then : (seat : ℕ) → (rolls : List ℕ) → Seats → ℕ
roll_then seat rolls seats = slice_index_or rolls seat (roll_in seat seats)

-- A row's position in list `number`, which is of this seat; `None` if it is no member (own).
abbrev pub stood : (seat number : ℕ) → Seats → Option ℕ
stood seat number seats = if roll_in seat seats == number then Some (place_in seat seats) else None

-- In this seat the row can be set back from `now` to `before` without new memory (own). The old list is one of the seat or
-- `NOWHERE`. If the list changes, the old position is within it or at its end, and there is room.
pub record CanReturn (rolls : List Numbered) (now before : Seats) (seat : ℕ) : Type 0 where
  pub target : IsFor rolls seat (roll_in seat before)
  pub room : roll_in seat before ≢ NOWHERE → roll_in seat before ≢ roll_in seat now
      → (place_in seat before ≤ length (names_of (roll_in seat before) rolls)) × (0 < room_of (roll_in seat before) rolls)

-- Only memory and empty lists are added (own): every list keeps its seat and members, every row its seats, and lists and seats
-- still agree.
pub record Grows (old new : Seated) : Type 0 where
  pub count : length old.rolls ≤ length new.rolls
  pub few : length old.rolls ≤ NOWHERE → length new.rolls ≤ NOWHERE
  pub own : (number : ℕ) → number < length old.rolls → seat_of number new.rolls ≡ seat_of number old.rolls
  pub names : (number : ℕ) → names_of number new.rolls ≡ names_of number old.rolls
  pub seats : new.seats ≡ old.seats
  pub room : KeepsRoom old.rolls new.rolls
  pub rows : old.room ≤ new.room
  pub seated : (names : List (List ℕ)) → AreSeated names old → AreSeated names new

-- The list number that `rolls` names for a seat; `NOWHERE` past its end (own).
abbrev pub target : ℕ → List ℕ → ℕ
target seat rolls = slice_index_or rolls seat NOWHERE

-- The seats of the row of a name; free ones while the table has a row for which no seats are stored yet (own).
abbrev pub seats_now : List (List ℕ) → List Seats → List ℕ → Seats
seats_now names seats name = if length seats == length names then seats_of names seats name else free

-- A row of a new name was appended to the table (own). No seats are stored for it yet, and there is room.
pub record Enters {Row : Type 0} (name_of : Row → List ℕ) (name : List ℕ) (now : List Row) (seated : Seated) : Type 0 where
  pub row : Row
  pub named : name_of row ≡ name
  pub before : List Row
  pub rows : now ≡ with_row name_of row before
  pub new : has_row name_of (name_of row) before ≡ false
  pub seats : AreSeated (map name_of before) seated
  pub room : 0 < seated.room

-- Lists and seats agree, or do so but for a new last row of this name without seats (own).
abbrev pub AwaitsSeats : {Row : Type 0} → (Row → List ℕ) → List ℕ → List Row → Seated → Type 0
AwaitsSeats name_of name rows seated = AreSeated (map name_of rows) seated ⊎ Enters name_of name rows seated

-- A row of a new name was inserted at a position of the table (own). No seats are stored for it yet, and there is room.
pub record Rejoins {Row : Type 0} (name_of : Row → List ℕ) (name : List ℕ) (now : List Row) (seated : Seated) : Type 0 where
  pub row : Row
  pub named : name_of row ≡ name
  pub place : ℕ
  pub before : List Row
  pub rows : now ≡ insert before place row
  pub within : place ≤ length before
  pub new : has_row name_of (name_of row) before ≡ false
  pub seats : AreSeated (map name_of before) seated
  pub room : 0 < seated.room

-- Lists and seats agree, or do so but for an inserted row of this name without seats (own).
abbrev pub RegainsSeats : {Row : Type 0} → (Row → List ℕ) → List ℕ → List Row → Seated → Type 0
RegainsSeats name_of name rows seated = AreSeated (map name_of rows) seated ⊎ Rejoins name_of name rows seated
