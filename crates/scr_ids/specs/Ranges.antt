-- Ids for the rows of tables (own). Each row has a range of consecutive ids, as long as its table's stride, while it exists. The
-- range of a removed row is free, and serves the next new row of the table.
use Rattle.std.specs.Prelude.{◌≡◌, ℕ, ◌+◌, ◌<◌, ◌==◌, Bool, List, [], length, slice_index_or}
use Rattle.scr_ids.specs.declared.table.Table.{Table}
use Rattle.scr_ids.specs.declared.table.Table.TheVariants as tables

-- The ranges of a table by their first ids: the ranges of its rows in row order, then the free ones. `live` is the number of rows
-- (own).
pub record RangeList : Type 0 where
  pub firsts : List ℕ
  pub live : ℕ

-- The number of ids, used or free, which is also their bound; and the ranges of each table (own).
pub record Numbered : Type 0 where
  pub size : ℕ
  pub rolls : List RangeList

-- The number of ids of a row of the table, one for each figure that it may have (own).
abbrev pub stride : Table → ℕ
stride tables.Whole = 154
stride tables.Fund = 1
stride tables.Security = 6
stride tables.Liability = 12
stride tables.Group = 3
stride tables.Currency = 9
stride tables.Part = 3

-- The index of a table among the seven, from 0 (own).
abbrev pub number_of : Table → ℕ
number_of tables.Whole = 0
number_of tables.Fund = 1
number_of tables.Security = 2
number_of tables.Liability = 3
number_of tables.Group = 4
number_of tables.Currency = 5
number_of tables.Part = 6

-- Both tables are one (own).
abbrev pub same_table : Table → Table → Bool
same_table table other = number_of table == number_of other

-- A table without ranges (own).
abbrev pub no_ranges : RangeList
no_ranges = record { firsts = []; live = 0 }

-- The ranges of a table (own).
abbrev pub roll_at : List RangeList → Table → RangeList
roll_at rolls table = slice_index_or rolls (number_of table) no_ranges

-- The first id of range `k` of a table; 0 if there is none (own).
abbrev pub first_in : List ℕ → ℕ → ℕ
first_in firsts k = slice_index_or firsts k 0

-- The number of rows of a table (own).
unfoldable pub count : Numbered → Table → ℕ
count places table = (roll_at places.rolls table).live

-- The number of ranges of a table, free ones included (own).
unfoldable pub made : Numbered → Table → ℕ
made places table = length (roll_at places.rolls table).firsts

-- The first id of range `k` of a table: of row `k`, or free (own).
unfoldable pub first : Numbered → Table → ℕ → ℕ
first places table k = first_in (roll_at places.rolls table).firsts k

-- The id is at place `j` of the range of row `k` of the table (own).
pub record IsAt (places : Numbered) (table : Table) (k j number : ℕ) : Type 0 where
  pub row : k < count places table
  pub family : j < stride table
  pub is : first places table k + j ≡ number

-- Both triples name one row and one place in its range (own).
pub record IsOne (table : Table) (k j : ℕ) (other : Table) (m i : ℕ) : Type 0 where
  pub tables : table ≡ other
  pub rows : k ≡ m
  pub families : j ≡ i

-- No id belongs to two rows or to two places of a row (own).
abbrev pub IsApart : Numbered → Type 0
IsApart places = (number : ℕ) (table : Table) (k j : ℕ) (other : Table) (m i : ℕ) → IsAt places table k j number
    → IsAt places other m i number → IsOne table k j other m i

-- Every id of a row is below the size (own).
abbrev pub IsWithin : Numbered → Type 0
IsWithin places = (number : ℕ) (table : Table) (k j : ℕ) → IsAt places table k j number → number < places.size
