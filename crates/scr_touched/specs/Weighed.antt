-- The shares of a fund's components, by name (this project's own).
use Rattle.std.specs.Prelude.{◌≡◌, ℕ, ℤ, List, Option, Some, None, if◌then◌else◌}
use Rattle.std.specs.List.{list_any}
use Rattle.std.specs.Option.{option_map}
use Rattle.scr_tables.specs.Tables.{row_of}
use Rattle.scr_sheet.specs.declared.rows.Stake.{Stake}
use Rattle.scr_nodes.specs.Own.{Share}
use Rattle.scr_nodes.specs.Rows.{is_component, weights_before, weights_through}
use Rattle.scr_touched.specs.Components.{component_name}
use Rattle.scr_touched.specs.Funds.{share_of}
use Rattle.scr_touched.specs.declared.component.Component.{Component}
use Rattle.scr_touched.specs.declared.component.Weighed.{Weighed}

abbrev pub share_with : ℕ → Component → Share
share_with all component = record { before = component.before; through = component.through; all = all }

-- the share of what has this name, if it is a component
abbrev pub share_at : List ℕ → Weighed → Option Share
share_at x weighed = option_map (share_with weighed.all) (row_of component_name x weighed.rows)

-- they are the shares in the fund, if there is a fund
unfoldable pub AreShares : Weighed → Option Stake → Type 0
AreShares weighed stake = (x : List ℕ) → share_at x weighed ≡ share_of x stake

-- ---- among these components

-- the weights before what has this name, and up to it and with it
abbrev pub weights_at : List ℕ → List (List ℕ × ℤ) → Option (ℕ × ℕ)
weights_at x components =
    if list_any (is_component x) components
    then Some (weights_before x components, weights_through x components) else None

abbrev pub weights_of : Component → ℕ × ℕ
weights_of component = (component.before, component.through)

-- the rows tell the weights of each name
unfoldable pub AreWeighed : List Component → List (List ℕ × ℤ) → Type 0
AreWeighed rows components =
    (x : List ℕ) → option_map weights_of (row_of component_name x rows) ≡ weights_at x components
