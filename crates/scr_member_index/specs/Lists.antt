-- What stands beside the member lists of a book (own): the first ids of the members' rows, and a part with a slot for each Block.
use Rattle.std.specs.Prelude.{◌≡◌, ℕ, ◌+◌, ◌*◌, ◌<◌, true, List, [], Some, length}
use Rattle.std.specs.List.{position_or_len}
use Rattle.std.specs.Option.{option_map_or}
use Rattle.scr_tables.specs.Names.{same_name}
use Rattle.scr_sum_tree.specs.Blocks.{blocks_at}
use Rattle.scr_sum_tree.specs.declared.blocks.Level.{Level}
use Rattle.scr_ids.specs.Ranges.{Numbered as Ranges, count, first}
use Rattle.scr_ids.specs.declared.table.Table.{Table as Ranged}
use Rattle.scr_ids.specs.declared.table.Table.TheVariants as ranged
use Rattle.scr_member_lists.specs.Seatings.{names_of}
use Rattle.scr_member_lists.specs.declared.seating.Numbered.{Numbered}
use Rattle.scr_sum_slots.specs.Filling.{AreFirsts}
use Rattle.scr_sum_slots.specs.Firsts.{FirstLists, firsts_in}
use Rattle.scr_sum_slots.specs.Parts.{count_of, slot_of}
use Rattle.scr_sum_slots.specs.declared.parts.Part.{Part}
use Rattle.scr_sheet.specs.Members.{table_of}
use Rattle.scr_sheet.specs.declared.{sheet.BalanceSheet.BalanceSheet, keys.Table.Table, roll.Roll.Roll}
use Rattle.scr_sheet.specs.declared.keys.Table.TheVariants as tables
use Rattle.scr_book.specs.Places.{names_in}
use Rattle.scr_book.specs.RolledSheets.{RolledSheet}
use Rattle.scr_book.specs.Rolls.{KeptRolls, number_of_roll, same_table, seated_in}
use Rattle.scr_member_index.specs.declared.lists.Lists.{Lists}

-- Rows of this table are members of lists: securities, liabilities, funds and groups (own).
abbrev pub HasLists : Table → Type 0
HasLists table = same_table table table ≡ true

-- The table of id ranges for the rows of this table (own).
abbrev pub ranges_of : Table → Ranged
ranges_of tables.Security = ranged.Security
ranges_of tables.Liability = ranged.Liability
ranges_of tables.Fund = ranged.Fund
ranges_of table = ranged.Group

-- The index of a table among the four that have lists, 0 to 3 (own).
abbrev pub table_place : Table → ℕ
table_place tables.Security = 0
table_place tables.Liability = 1
table_place tables.Fund = 2
table_place table = 3

-- The number of a list among all tables, from its number among the lists of its own table (own).
abbrev pub list_in : Table → ℕ → ℕ
list_in table number = 4 * number + table_place table

-- The member lists of a table, by number (own).
abbrev pub lists_in : Table → KeptRolls → List Numbered
lists_in table kept = (seated_in table kept).rolls

-- The first ids beside the lists of a table (own).
abbrev pub firsts_at : Table → Lists → FirstLists
firsts_at tables.Security lists = lists.securities
firsts_at tables.Liability lists = lists.liabilities
firsts_at tables.Fund lists = lists.funds
firsts_at table lists = lists.groups

-- The first ids beside one list; empty if the list has no number (own).
abbrev pub members_of : Roll → KeptRolls → Lists → List ℕ
members_of roll kept lists = option_map_or (λ number. firsts_in number (firsts_at (table_of roll) lists)) (number_of_roll roll kept) []

-- The first id of the row of a name (own).
abbrev pub first_of : BalanceSheet → Ranges → Table → List ℕ → ℕ
first_of sheet places table name = first places (ranges_of table) (position_or_len (same_name name) (names_in table sheet))

-- Each row of a table with lists has a range of ids (own).
abbrev pub HaveRanges : BalanceSheet → Ranges → Type 0
HaveRanges sheet places = (table : Table) → HasLists table → count places (ranges_of table) ≡ length (names_in table sheet)

-- Beside each list stand the first ids of its members, by position (own). Each list has exactly one part for each Block, and the
-- slot of each part has a row of ids. A free slot may lack one, if memory for it was refused.
pub record AreListsOf (book : RolledSheet) (places : Ranges) (lists : Lists) : Type 0 where
  pub firsts : (table : Table) → HasLists table → AreFirsts (first_of book.sheet places table) (lists_in table book.rolls) (firsts_at table lists)
  pub parts : (table : Table) → HasLists table → (number : ℕ) (level : Level)
      → count_of (list_in table number) level lists.parts ≡ blocks_at (length (names_of number (lists_in table book.rolls))) level
  pub rows : (part : Part) (slot : ℕ) → slot_of part lists.parts ≡ Some slot → slot < count places ranged.Part
