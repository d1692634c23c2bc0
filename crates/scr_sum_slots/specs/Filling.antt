-- First ids beside the member lists of a table, filled in one pass over the rows and their seats (own).
use Rattle.std.specs.Prelude.{◌≡◌, ◌≢◌, ℕ, ◌+◌, ◌<◌, ◌≤◌, List, length, map, max}
use Rattle.scr_member_lists.specs.Seatings.{NOWHERE, names_of, place_in, roll_in}
use Rattle.scr_member_lists.specs.declared.seating.Numbered.{Numbered}
use Rattle.scr_member_lists.specs.declared.seats.Seats.{Seats}
use Rattle.scr_sum_slots.specs.Firsts.{FirstLists, first_at, firsts_in}

-- Beside each member list stand the first ids of its members' rows, position by position (own).
abbrev pub AreFirsts : (List ℕ → ℕ) → List Numbered → FirstLists → Type 0
AreFirsts first_of rolls firsts = (list : ℕ) → firsts_in list firsts ≡ map first_of (names_of list rolls)

-- A first id was written at a position of a list (own). The list is extended to that position if it was shorter, with 0 in
-- between; nothing else changes.
pub record IsWritten (list place number : ℕ) (before now : FirstLists) : Type 0 where
  pub inside : place < length (firsts_in list now)
  pub is : first_at place (firsts_in list now) ≡ number
  pub others : (other at : ℕ) → (other ≡ list → at ≡ place → ⊥) → first_at at (firsts_in other now) ≡ first_at at (firsts_in other before)
  pub no_longer : length (firsts_in list now) ≤ max (length (firsts_in list before)) (place + 1)
  pub longer : (other : ℕ) → length (firsts_in other before) ≤ length (firsts_in other now)
  pub lengths : (other : ℕ) → other ≢ list → length (firsts_in other now) ≡ length (firsts_in other before)

-- The first id of a row was written at the list and position of each taken seat below `many`; nothing else changes (own). No list
-- is longer than its largest position asks.
pub record IsEntered (seats : Seats) (first many : ℕ) (before now : FirstLists) : Type 0 where
  pub there : (seat : ℕ) → seat < many → roll_in seat seats ≢ NOWHERE
      → (place_in seat seats < length (firsts_in (roll_in seat seats) now))
      × (first_at (place_in seat seats) (firsts_in (roll_in seat seats) now) ≡ first)
  pub others : (list place : ℕ) → ((seat : ℕ) → seat < many → roll_in seat seats ≡ list → place_in seat seats ≡ place → ⊥)
      → first_at place (firsts_in list now) ≡ first_at place (firsts_in list before)
  pub longer : (list : ℕ) → length (firsts_in list before) ≤ length (firsts_in list now)
  pub within : (most : ℕ → ℕ) → ((list : ℕ) → length (firsts_in list before) ≤ most list)
      → ((seat : ℕ) → seat < many → roll_in seat seats ≢ NOWHERE → place_in seat seats < most (roll_in seat seats))
      → (list : ℕ) → length (firsts_in list now) ≤ most list
