-- Doubly linked lists of slots (own): each slot links to its neighbours, and each list has its ends. A link is `none` where there
-- is no neighbour.
use Rattle.std.specs.Prelude.{◌≡◌, ℕ, zero, suc, ◌+◌, ◌*◌, ◌/◌, ◌%◌, ◌==◌, ◌++◌, ◌<◌, ◌≤◌, true, false, List, [], ◌∷◌, length}
use Rattle.std.specs.Prelude.{slice_index_or}
use Rattle.std.specs.Prelude.{if◌then◌else◌}
use Rattle.scr_links.specs.declared.chains.Link.{Link}
use Rattle.scr_links.specs.declared.chains.Ends.{Ends}
use Rattle.scr_links.specs.Places.{has, without, AreApart}

-- The ends of lists, stored by blocks of four neighbouring lists (own). `seats` has each block's index among the written ones,
-- `none` if it isn't written; `written` has their ends, one block behind another; `room` is the number of lists with room.
pub record EndsByList : Type 0 where
  pub seats : List ℕ
  pub written : List Ends
  pub room : ℕ

-- Links by slot, ends by list number, and the number of lists with room (own).
pub record Chained : Type 0 where
  pub links : List Link
  pub ends : EndsByList
  pub room : ℕ

-- The link where there is no neighbour, 2^32 - 1 (own).
abbrev pub none : ℕ
none = 4294967295

-- The link of a slot without neighbours (own).
abbrev pub unlinked : Link
unlinked = record { next = none; previous = none }

-- The ends of an empty list (own).
abbrev pub empty : Ends
empty = record { first = none; last = none }

-- The link of a slot; one without neighbours past the end (own).
abbrev pub link_at : List Link → ℕ → Link
link_at links place = slice_index_or links place unlinked

-- The index of a block among the written ones; `none` if it isn't written (own).
abbrev pub seat_at : List ℕ → ℕ → ℕ
seat_at seats block = slice_index_or seats block none

-- The ends at an index of the written ones; the ends of an empty list past the end (own).
abbrev pub written_at : List Ends → ℕ → Ends
written_at ends place = slice_index_or ends place empty

-- The ends of a list, read from its block; empty if the block isn't written (own).
abbrev pub ends_in : List ℕ → List Ends → ℕ → Ends
ends_in seats written number = written_at written (seat_at seats (number / 4) * 4 + number % 4)

-- The ends of a list (own).
abbrev pub ends_at : EndsByList → ℕ → Ends
ends_at ends number = ends_in ends.seats ends.written number

-- The slots from `place` on along the forward links, at most `most` (own).
abbrev pub places_from : List Link → ℕ → ℕ → List ℕ
places_from links zero place = []
places_from links (suc most) place =
    if place == none then [] else place ∷ places_from links most (link_at links place).next

-- The slots of a list in order (own).
unfoldable pub list_of : Chained → ℕ → List ℕ
list_of chains number = places_from chains.links (length chains.links) (ends_at chains.ends number).first

-- The slot after `place`; the list's first slot for `none`, which closes the list to a ring (own).
unfoldable pub next_in : List Link → Ends → ℕ → ℕ
next_in links ends place = if place == none then ends.first else (link_at links place).next

-- The slot before `place`; the list's last slot for `none` (own).
unfoldable pub previous_in : List Link → Ends → ℕ → ℕ
previous_in links ends place = if place == none then ends.last else (link_at links place).previous

-- Only the forward link of `place`, or the list's first slot for `none`, was set, to `next` (own).
pub record SetsNext (place next : ℕ) (links : List Link) (ends : Ends) (now : List Link) (so : Ends) : Type 0 where
  pub onward : (x : ℕ) → next_in now so x ≡ (if x == place then next else next_in links ends x)
  pub backward : (x : ℕ) → previous_in now so x ≡ previous_in links ends x
  pub others : (x : ℕ) → (x == place) ≡ false → link_at now x ≡ link_at links x
  pub places : length now ≡ length links

-- Only the backward link of `place`, or the list's last slot for `none`, was set, to `previous` (own).
pub record SetsPrevious (place previous : ℕ) (links : List Link) (ends : Ends) (now : List Link)
    (so : Ends) : Type 0 where
  pub onward : (x : ℕ) → next_in now so x ≡ next_in links ends x
  pub backward : (x : ℕ) → previous_in now so x ≡ (if x == place then previous else previous_in links ends x)
  pub others : (x : ℕ) → (x == place) ≡ false → link_at now x ≡ link_at links x
  pub places : length now ≡ length links

-- Forward links lead from `from` over these slots to `to`, and backward links lead back (own).
abbrev pub Path : (ℕ → ℕ) → (ℕ → ℕ) → ℕ → List ℕ → ℕ → Type 0
Path next previous from [] to = (next from ≡ to) × (previous to ≡ from)
Path next previous from (place ∷ places) to =
    (next from ≡ place) × (previous place ≡ from) × Path next previous place places to

-- The links hold exactly these slots together as a list (own). No slot is in it twice, and each has a link of its own.
pub record IsChain (links : List Link) (ends : Ends) (places : List ℕ) : Type 0 where
  pub ring : Path (next_in links ends) (previous_in links ends) none places none
  pub distinct : AreApart (none ∷ places)
  pub within : (place : ℕ) → has place places ≡ true → place < length links

-- The forward links lead from `at` over these slots to the end of a list (own).
abbrev pub Leads : List Link → ℕ → List ℕ → Type 0
Leads links at [] = at ≡ none
Leads links at (place ∷ places) =
    (at ≡ place) × (place < none) × (place < length links) × Leads links (link_at links place).next places

-- Every list is linked both ways, and no slot is in two lists (own).
pub record AreChains (chains : Chained) : Type 0 where
  pub each : (number : ℕ) → IsChain chains.links (ends_at chains.ends number) (list_of chains number)
  pub apart : (number other place : ℕ) → has place (list_of chains number) ≡ true
      → has place (list_of chains other) ≡ true → number ≡ other
  pub few : length chains.links ≤ none

-- The slot was appended to the list; every other list stays (own).
pub record Appended (before now : Chained) (list place : ℕ) : Type 0 where
  pub listed : list_of now list ≡ list_of before list ++ place ∷ []
  pub others : (number : ℕ) → (number == list) ≡ false → list_of now number ≡ list_of before number
  pub places : length now.links ≡ length before.links
  pub numbers : before.room ≤ now.room
  pub few : length (list_of now list) ≤ none

-- The slot was removed from the list and is in none; all other slots stay in order (own).
pub record Removed (before now : Chained) (list place : ℕ) : Type 0 where
  pub listed : list_of now list ≡ without place (list_of before list)
  pub fewer : length (list_of now list) + 1 ≡ length (list_of before list)
  pub gone : (number : ℕ) → has place (list_of now number) ≡ false
  pub others : (number : ℕ) → (number == list) ≡ false → list_of now number ≡ list_of before number
  pub places : length now.links ≡ length before.links
  pub numbers : before.room ≤ now.room
