-- The components of funds in a table of names (this project's own).
use Rattle.std.specs.Prelude.{ℕ, List, if◌then◌else◌}
use Rattle.scr_tables.specs.Tables.{has_row, with_row}
use Rattle.scr_touched.specs.declared.component.Component.{Component}

abbrev pub component_name : Component → List ℕ
component_name component = component.name

-- of two components of one name the first counts
abbrev pub with_first : Component → List Component → List Component
with_first component rows =
    if has_row component_name component.name rows then rows else with_row component_name component rows
