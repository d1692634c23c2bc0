-- The ids of a balance sheet's figures (own): the first id of the figure's row plus its family.
use Rattle.std.specs.Prelude.{◌≡◌, ℕ, Bool, true, false, List, [], ◌∷◌, Some, length, map, slice_get}
use Rattle.std.specs.List.{IsDistinct}
use Rattle.scr_tables.specs.Names.{same_name}
use Rattle.scr_ids.specs.Ranges.{IsAt, Numbered, count, first}
use Rattle.scr_ids.specs.declared.table.Table.{Table}
use Rattle.scr_ids.specs.declared.table.Table.TheVariants as tables
use Rattle.scr_sheet.specs.BalanceSheet.{curve_name, group_name, liability_name, position_name, stake_name}
use Rattle.scr_sheet.specs.declared.sheet.BalanceSheet.{BalanceSheet}
use Rattle.scr_nodes.specs.declared.node.Node.{Node}
use Rattle.scr_figure_ids.specs.Families.{family_of, name_of, table_of}

-- The table's rows are rows of the sheet; parts of member lists are not (own).
abbrev pub is_of_sheet : Table → Bool
is_of_sheet tables.Part = false
is_of_sheet table = true

-- The names of a table's rows in order (own). The whole sheet is one row with an empty name, and the table of parts counts as
-- empty.
abbrev pub names_in : BalanceSheet → Table → List (List ℕ)
names_in sheet tables.Whole = [] ∷ []
names_in sheet tables.Fund = map stake_name sheet.funds
names_in sheet tables.Security = map position_name sheet.securities
names_in sheet tables.Liability = map liability_name sheet.liabilities
names_in sheet tables.Group = map group_name sheet.groups
names_in sheet tables.Currency = map curve_name sheet.curves
names_in sheet tables.Part = []

-- Each row of the sheet has a range of ids, and the whole sheet's begins at 0 (own). Nothing is said of parts of member lists.
pub record IsNumbered (sheet : BalanceSheet) (places : Numbered) : Type 0 where
  pub rows : (table : Table) → is_of_sheet table ≡ true → count places table ≡ length (names_in sheet table)
  pub whole : first places tables.Whole 0 ≡ 0

-- The figure has id `number` (own).
pub record StandsAt (sheet : BalanceSheet) (places : Numbered) (node : Node) (number : ℕ) : Type 0 where
  pub k : ℕ
  pub row : slice_get (names_in sheet (table_of node)) k ≡ Some (name_of node)
  pub at : IsAt places (table_of node) k (family_of node) number

-- No two rows of a table have one name (own).
abbrev pub AreNamedOnce : BalanceSheet → Type 0
AreNamedOnce sheet = (table : Table) → IsDistinct same_name (names_in sheet table)
