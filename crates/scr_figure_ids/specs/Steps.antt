-- One step of the rows that have ids, by a record (own): a row is appended, a row is removed, or each stays where it is.
use Rattle.std.specs.Prelude.{◌≡◌, ℕ, ◌<◌, ◌≤◌, ◌++◌, ◌∷◌, [], false, List, length, remove}
use Rattle.scr_ids.specs.Moves.{Came, PutBack, Retired, Went}
use Rattle.scr_ids.specs.Ranges.{Numbered, count, made, same_table}
use Rattle.scr_ids.specs.declared.table.Table.{Table}
use Rattle.scr_sheet.specs.declared.sheet.BalanceSheet.{BalanceSheet}
use Rattle.scr_figure_ids.specs.Numbers.{names_in}
use Rattle.scr_figure_ids.specs.declared.steps.Step.{Step}
use Rattle.scr_figure_ids.specs.declared.steps.Step.TheVariants as steps

-- Every other table has its rows where they were (own).
abbrev pub AreOthersKept : Table → BalanceSheet → BalanceSheet → Type 0
AreOthersKept table before after = (other : Table) → same_table table other ≡ false → names_in after other ≡ names_in before other

-- One row was appended to the table, and every other table stays (own).
pub record IsRowMore (table : Table) (before after : BalanceSheet) : Type 0 where
  pub name : List ℕ
  pub rows : names_in after table ≡ names_in before table ++ name ∷ []
  pub others : AreOthersKept table before after

-- Row `k` of the table was removed, and every other table stays (own).
pub record IsRowLess (table : Table) (k : ℕ) (before after : BalanceSheet) : Type 0 where
  pub place : k < length (names_in before table)
  pub rows : names_in after table ≡ remove (names_in before table) k
  pub others : AreOthersKept table before after

-- The step leads from one sheet to the other (own).
abbrev pub LeadsTo : Step → BalanceSheet → BalanceSheet → Type 0
LeadsTo steps.Stays before after = (table : Table) → names_in after table ≡ names_in before table
LeadsTo (steps.Comes table) before after = IsRowMore table before after
LeadsTo (steps.Goes table k) before after = IsRowLess table k before after

-- The ids took the step (own).
abbrev pub Takes : Step → Numbered → Numbered → Type 0
Takes steps.Stays before now = now ≡ before
Takes (steps.Comes table) before now = Came table before now
Takes (steps.Goes table k) before now = Went table k before now

-- The step is possible: a row to be removed is there (own).
abbrev pub CanTake : Step → Numbered → Type 0
CanTake steps.Stays places = Unit {0}
CanTake (steps.Comes table) places = Unit {0}
CanTake (steps.Goes table k) places = k < count places table

-- The step can be undone: an appended row is there, or the range of a removed one is free (own).
abbrev pub CanTakeBack : Step → Numbered → Type 0
CanTakeBack steps.Stays places = Unit {0}
CanTakeBack (steps.Comes table) places = 0 < count places table
CanTakeBack (steps.Goes table k) places = (k ≤ count places table) × (count places table < made places table)

-- The ids undid the step (own).
abbrev pub TakesBack : Step → Numbered → Numbered → Type 0
TakesBack steps.Stays before now = now ≡ before
TakesBack (steps.Comes table) before now = Retired table before now
TakesBack (steps.Goes table k) before now = PutBack table k before now
