-- Single steps from which the changes of a table's ranges are made (own).
use Rattle.std.specs.Prelude.{◌≡◌, ℕ, ◌+◌, ◌<◌, false, List, length}
use Rattle.scr_ids.specs.Ranges.{Numbered, RangeList, count, made, first, stride, same_table, roll_at}
use Rattle.scr_ids.specs.Moves.{IsSameBut, Sunk, Risen}
use Rattle.scr_ids.specs.declared.table.Table.{Table}

-- Every other table keeps its ranges (own).
pub record IsRollsBut (table : Table) (before now : List RangeList) : Type 0 where
  pub tables : length now ≡ length before
  pub others : (other : Table) → same_table table other ≡ false → roll_at now other ≡ roll_at before other

-- The first free range became the range of a new last row (own).
pub record Revived (table : Table) (before now : Numbered) : Type 0 where
  pub others : IsSameBut table before now
  pub one_more : count now table ≡ count before table + 1
  pub ranges : made now table ≡ made before table
  pub firsts : (k : ℕ) → first now table k ≡ first before table k
  pub size : now.size ≡ before.size

-- The range at index `low` moved to `high`, behind the ranges that were between them (own).
pub record Sinking (table : Table) (low high : ℕ) (before now : Numbered) : Type 0 where
  pub others : IsSameBut table before now
  pub counts : count now table ≡ count before table
  pub ranges : made now table ≡ made before table
  pub firsts : Sunk low high (first before table) (first now table)
  pub size : now.size ≡ before.size

-- The range at index `high` moved to `low`, before the ranges that were between them (own).
pub record Rising (table : Table) (low high : ℕ) (before now : Numbered) : Type 0 where
  pub others : IsSameBut table before now
  pub counts : count now table ≡ count before table
  pub ranges : made now table ≡ made before table
  pub firsts : Risen low high (first before table) (first now table)
  pub size : now.size ≡ before.size

-- One free range was added, with the ids from the old size on (own).
pub record Made (table : Table) (before now : Numbered) : Type 0 where
  pub others : IsSameBut table before now
  pub counts : count now table ≡ count before table
  pub ranges : made now table ≡ made before table + 1
  pub firsts : (k : ℕ) → k < made before table → first now table k ≡ first before table k
  pub start : first now table (made before table) ≡ before.size
  pub size : now.size ≡ before.size + stride table
