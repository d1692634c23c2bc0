-- How the ranges of a table change when rows come and go (own): no other row changes its ids.
use Rattle.std.specs.Prelude.{◌≡◌, ℕ, ◌+◌, ◌<◌, ◌≤◌, false, if◌then◌else◌, max, nat_lt}
use Rattle.scr_ids.specs.Ranges.{Numbered, count, made, first, stride, same_table}
use Rattle.scr_ids.specs.declared.table.Table.{Table}
use Rattle.scr_ids.specs.declared.table.Table.TheVariants as tables

-- The entry at `low` moved to `high`, and the index of each entry between them fell by one (own).
pub record Sunk (low high : ℕ) (was now : ℕ → ℕ) : Type 0 where
  pub below : (m : ℕ) → m < low → now m ≡ was m
  pub between : (m : ℕ) → low ≤ m → m < high → now m ≡ was (m + 1)
  pub moved : now high ≡ was low
  pub above : (m : ℕ) → high < m → now m ≡ was m

-- The entry at `high` moved to `low`, and the index of each entry between them rose by one (own).
pub record Risen (low high : ℕ) (was now : ℕ → ℕ) : Type 0 where
  pub below : (m : ℕ) → m < low → now m ≡ was m
  pub between : (m : ℕ) → low ≤ m → m < high → now (m + 1) ≡ was m
  pub moved : now low ≡ was high
  pub above : (m : ℕ) → high < m → now m ≡ was m

-- Every other table keeps its rows and ranges (own).
pub record IsSameBut (table : Table) (before now : Numbered) : Type 0 where
  pub counts : (other : Table) → same_table table other ≡ false → count now other ≡ count before other
  pub ranges : (other : Table) → same_table table other ≡ false → made now other ≡ made before other
  pub firsts : (other : Table) → same_table table other ≡ false → (k : ℕ) → first now other k ≡ first before other k

-- The whole sheet has the ids from 0 on, as one row; no other table has a row or range (own).
pub record IsNew (places : Numbered) : Type 0 where
  pub size : places.size ≡ stride tables.Whole
  pub counts : (table : Table) → same_table tables.Whole table ≡ false → count places table ≡ 0
  pub ranges : (table : Table) → same_table tables.Whole table ≡ false → made places table ≡ 0
  pub whole_count : count places tables.Whole ≡ 1
  pub whole_ranges : made places tables.Whole ≡ 1
  pub whole_first : first places tables.Whole 0 ≡ 0

-- A row was appended to a table, with the first free range, or a new one if none was free (own).
pub record Came (table : Table) (before now : Numbered) : Type 0 where
  pub others : IsSameBut table before now
  pub within : count before table ≤ made before table
  pub one_more : count now table ≡ count before table + 1
  pub ranges : made now table ≡ max (made before table) (count before table + 1)
  pub firsts : (k : ℕ) → k < made before table → first now table k ≡ first before table k
  pub size : now.size
      ≡ (if nat_lt (count before table) (made before table) then before.size else before.size + stride table)

-- Row `k` was removed, and its range is the first free one (own). The indexes of later rows fell by one.
pub record Went (table : Table) (k : ℕ) (before now : Numbered) : Type 0 where
  pub others : IsSameBut table before now
  pub within : count before table ≤ made before table
  pub one_less : count now table + 1 ≡ count before table
  pub ranges : made now table ≡ made before table
  pub firsts : Sunk k (count now table) (first before table) (first now table)
  pub size : now.size ≡ before.size

-- The last row was removed, and its range is the first free one (own).
pub record Retired (table : Table) (before now : Numbered) : Type 0 where
  pub others : IsSameBut table before now
  pub one_less : count now table + 1 ≡ count before table
  pub ranges : made now table ≡ made before table
  pub firsts : (k : ℕ) → first now table k ≡ first before table k
  pub size : now.size ≡ before.size

-- A row was inserted as row `k` with the first free range (own). The indexes of later rows rose by one.
pub record PutBack (table : Table) (k : ℕ) (before now : Numbered) : Type 0 where
  pub others : IsSameBut table before now
  pub one_more : count now table ≡ count before table + 1
  pub ranges : made now table ≡ made before table
  pub firsts : Risen k (count before table) (first before table) (first now table)
  pub size : now.size ≡ before.size

-- Every row has the ids that it had (own).
pub record IsAsBefore (before now : Numbered) : Type 0 where
  pub counts : (table : Table) → count now table ≡ count before table
  pub firsts : (table : Table) (k : ℕ) → k < count before table → first now table k ≡ first before table k

-- Every row has the ids that it had, and the free ranges are in their old order (own).
pub record IsWholeAsBefore (before now : Numbered) : Type 0 where
  pub counts : (table : Table) → count now table ≡ count before table
  pub ranges : (table : Table) → made now table ≡ made before table
  pub firsts : (table : Table) (k : ℕ) → first now table k ≡ first before table k
  pub size : now.size ≡ before.size
