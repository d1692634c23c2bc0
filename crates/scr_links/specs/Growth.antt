-- How the tables of the edges grow (own).
use Rattle.std.specs.Prelude.{◌≡◌, ℕ, ◌+◌, ◌==◌, ◌<◌, ◌≤◌, true, false, length}
use Rattle.scr_links.specs.Places.{has}
use Rattle.scr_links.specs.Chains.{Chained, list_of}
use Rattle.scr_links.specs.Ends.{pair_at}
use Rattle.scr_links.specs.declared.links.Tables.{Tables}

-- Every list stays, and there is no less room for slots and lists (own).
pub record HaveGrown (before now : Chained) : Type 0 where
  pub lists : (number : ℕ) → list_of now number ≡ list_of before number
  pub places : length before.links ≤ length now.links
  pub numbers : before.room ≤ now.room

-- Every list of all tables and every edge's nodes stay, and no table has less room (own).
pub record HasGrown (before now : Tables) : Type 0 where
  pub order : HaveGrown before.order now.order
  pub sources : HaveGrown before.by_source now.by_source
  pub dependants : HaveGrown before.by_dependant now.by_dependant
  pub pairs : (place : ℕ) → place < length before.pairs.items
      → pair_at now.pairs.items place ≡ pair_at before.pairs.items place
  pub places : length before.pairs.items ≤ length now.pairs.items

-- The tables have room for `places` slots, and for lists of `size` nodes (own).
pub record HasRoom (tables : Tables) (places size : ℕ) : Type 0 where
  pub order : places ≤ length tables.order.links
  pub sources : places ≤ length tables.by_source.links
  pub dependants : places ≤ length tables.by_dependant.links
  pub pairs : places ≤ length tables.pairs.items
  pub two_lists : 2 ≤ tables.order.room
  pub source_lists : size ≤ tables.by_source.room
  pub dependant_lists : size ≤ tables.by_dependant.room

-- Slots `from` to `to` - 1 were appended to the free list, which is list 1; every other list stays (own).
pub record Freed (before now : Chained) (from to : ℕ) : Type 0 where
  pub freed : length (list_of now 1) + from ≡ length (list_of before 1) + to
  pub others : (number : ℕ) → (number == 1) ≡ false → list_of now number ≡ list_of before number
  pub placed : (number place : ℕ) → has place (list_of now number) ≡ true → place < to
  pub places : length now.links ≡ length before.links
  pub numbers : before.room ≤ now.room
