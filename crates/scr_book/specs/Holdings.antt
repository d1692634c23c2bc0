-- Names that are in order (this project's own): one test tells of a name that it exists, and that it stands where it may.
use Rattle.std.specs.Prelude.{ℕ, ℤ, ◌||◌, ◌&&◌, not, Bool, true, false, List, Option, None, Some}
use Rattle.std.specs.List.{list_all}
use Rattle.std.specs.Option.{option_map_or}
use Rattle.scr_tables.specs.Names.{same_name}
use Rattle.scr_tables.specs.Tables.{row_of}
use Rattle.scr_sheet.specs.BalanceSheet.{is_in, is_named, liability_name}
use Rattle.scr_sheet.specs.CashFlows.{has_projection}
use Rattle.scr_sheet.specs.declared.edit.Edit.{Edit}
use Rattle.scr_sheet.specs.declared.edit.Edit.TheVariants as edits
use Rattle.scr_sheet.specs.declared.keys.Projection.{Projection}
use Rattle.scr_sheet.specs.declared.keys.Table.{Table}
use Rattle.scr_sheet.specs.declared.keys.Table.TheVariants as tables
use Rattle.scr_sheet.specs.declared.sheet.BalanceSheet.{BalanceSheet}

-- a security or a fund, and the fund itself counts as one
abbrev pub is_component : List ℕ → BalanceSheet → List ℕ → Bool
is_component fund sheet name = is_in tables.Security name sheet || is_in tables.Fund name sheet || same_name name fund

abbrev pub are_components : List ℕ → BalanceSheet → List (List ℕ × ℤ) → Bool
are_components fund sheet components = list_all (λ c. is_component fund sheet c.0) components

-- the name stands in this table, or in none of those that share one set of names
abbrev pub is_apart : Table → List ℕ → BalanceSheet → Bool
is_apart table name sheet = not (is_named name sheet) || is_in table name sheet

-- a group that is there, or none
abbrev pub is_group : Option (List ℕ) → BalanceSheet → Bool
is_group None sheet = true
is_group (Some name) sheet = is_in tables.Group name sheet

-- a liability that is there and whose kind has the projection
abbrev pub is_projected : Projection → List ℕ → BalanceSheet → Bool
is_projected projection name sheet = option_map_or (λ l. has_projection l.kind projection) (row_of liability_name name sheet.liabilities) false

-- Each name of the record exists where it must, and stands where it may. Of a fund: it has its name for itself and holds nothing
-- but securities and funds. Of other records than these it is not told.
abbrev pub are_in_order : Edit → BalanceSheet → Bool
are_in_order (edits.Security name class group currency duration) sheet =
    is_apart tables.Security name sheet && is_group group sheet && is_in tables.Curve currency sheet
are_in_order (edits.Flows security flows) sheet = is_in tables.Security security sheet
are_in_order (edits.Hold name cents) sheet = is_in tables.Security name sheet || is_in tables.Fund name sheet
are_in_order (edits.LiabilityFlows liability projection flows) sheet = is_projected projection liability sheet
are_in_order (edits.Fund name components) sheet = is_apart tables.Fund name sheet && are_components name sheet components
are_in_order edit sheet = false
