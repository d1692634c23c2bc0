-- The effect of each record on the rows that have ids (own). A record that makes a row of a new name appends it, and one that
-- drops a row removes it. All others leave every row where it is.
use Rattle.std.specs.Prelude.{ℕ, ◌+◌, Bool, true, false, List, [], ◌∷◌, Option, Some, None, if◌then◌else◌, map}
use Rattle.std.specs.Option.{option_map}
use Rattle.scr_tables.specs.Names.{same_name}
use Rattle.scr_tables.specs.Tables.{has_row}
use Rattle.scr_ids.specs.declared.table.Table.{Table}
use Rattle.scr_ids.specs.declared.table.Table.TheVariants as tables
use Rattle.scr_sheet.specs.BalanceSheet.{curve_name, group_name, liability_name, position_name, stake_name}
use Rattle.scr_sheet.specs.declared.{edit.Edit.Edit, sheet.BalanceSheet.BalanceSheet}
use Rattle.scr_sheet.specs.declared.edit.Edit.TheVariants as edits
use Rattle.scr_sheet.specs.declared.keys.Table.{Table as SheetTable}
use Rattle.scr_sheet.specs.declared.keys.Table.TheVariants as sheet_tables
use Rattle.scr_figure_ids.specs.declared.steps.Step.{Step}
use Rattle.scr_figure_ids.specs.declared.steps.Step.TheVariants as steps

-- The first position of a name in a list; `None` if it isn't there (own).
abbrev pub place_in : List ℕ → List (List ℕ) → Option ℕ
place_in name [] = None
place_in name (first ∷ names) = if same_name name first then Some 0 else option_map (λ k. k + 1) (place_in name names)

-- The step of a record that makes a row: it replaces the row of its name, or is appended (own).
abbrev pub made_step : Table → Bool → Step
made_step table true = steps.Stays
made_step table false = steps.Comes table

-- The step of removing the row at a position, if there is one (own).
abbrev pub gone_step : Table → Option ℕ → Step
gone_step table None = steps.Stays
gone_step table (Some k) = steps.Goes table k

-- The step of removing the row of a name; none for banks and reinsurers, which have no ids (own).
abbrev pub drop_step : SheetTable → List ℕ → BalanceSheet → Step
drop_step sheet_tables.Group name sheet = gone_step tables.Group (place_in name (map group_name sheet.groups))
drop_step sheet_tables.Security name sheet = gone_step tables.Security (place_in name (map position_name sheet.securities))
drop_step sheet_tables.Fund name sheet = gone_step tables.Fund (place_in name (map stake_name sheet.funds))
drop_step sheet_tables.Liability name sheet = gone_step tables.Liability (place_in name (map liability_name sheet.liabilities))
drop_step sheet_tables.Curve name sheet = gone_step tables.Currency (place_in name (map curve_name sheet.curves))
drop_step sheet_tables.Bank name sheet = steps.Stays
drop_step sheet_tables.Rein name sheet = steps.Stays

-- The step of a record on a balance sheet (own).
abbrev pub step_of : Edit → BalanceSheet → Step
step_of (edits.Curve currency rates) sheet = made_step tables.Currency (has_row curve_name currency sheet.curves)
step_of (edits.Group name kind step) sheet = made_step tables.Group (has_row group_name name sheet.groups)
step_of (edits.Security name class group currency duration) sheet = made_step tables.Security (has_row position_name name sheet.securities)
step_of (edits.Fund name components) sheet = made_step tables.Fund (has_row stake_name name sheet.funds)
step_of (edits.Liability name kind currency) sheet = made_step tables.Liability (has_row liability_name name sheet.liabilities)
step_of (edits.Remove table name) sheet = drop_step table name sheet
step_of edit sheet = steps.Stays
