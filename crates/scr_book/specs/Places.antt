-- Where a name stands (this project's own).
use Rattle.std.specs.Prelude.{ℕ, List, map, Bool, true, false}
use Rattle.scr_sheet.specs.BalanceSheet.{group_name, position_name, liability_name, bank_name, rein_name, curve_name, stake_name}
use Rattle.scr_sheet.specs.declared.sheet.BalanceSheet.{BalanceSheet}
use Rattle.scr_sheet.specs.declared.keys.Table.{Table}
use Rattle.scr_sheet.specs.declared.keys.Table.TheVariants as tables

-- the names in a table, in their order
abbrev pub names_in : Table → BalanceSheet → List (List ℕ)
names_in tables.Group sheet = map group_name sheet.groups
names_in tables.Security sheet = map position_name sheet.securities
names_in tables.Fund sheet = map stake_name sheet.funds
names_in tables.Liability sheet = map liability_name sheet.liabilities
names_in tables.Bank sheet = map bank_name sheet.banks
names_in tables.Rein sheet = map rein_name sheet.reinsurers
names_in tables.Curve sheet = map curve_name sheet.curves

-- the table is one of those that share one set of names
abbrev pub shares_names : Table → Bool
shares_names tables.Curve = false
shares_names table = true
