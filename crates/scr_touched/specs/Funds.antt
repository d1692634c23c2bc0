-- Which figures an exchanged fund touches (this project's own).
use Rattle.std.specs.Prelude.{ℕ, ◌==◌, ◌&&◌, ◌||◌, Bool, true, false, List, [], ◌∷◌, Option, Some, None, is_some, if◌then◌else◌}
use Rattle.std.specs.Bool.{beq}
use Rattle.std.specs.List.{flat_map}
use Rattle.std.specs.Option.{option_eq}
use Rattle.scr_tables.specs.Names.{same_name}
use Rattle.scr_tables.specs.Tables.{has_row}
use Rattle.scr_sheet.specs.BalanceSheet.{position_name, stake_name}
use Rattle.scr_sheet.specs.declared.rows.Class.TheVariants as classes
use Rattle.scr_sheet.specs.declared.rows.Stake.{Stake}
use Rattle.scr_sheet.specs.declared.sheet.BalanceSheet.{BalanceSheet}
use Rattle.scr_nodes.specs.Own.{Share}
use Rattle.scr_nodes.specs.Rows.{holds, is_closed, share_in}
use Rattle.scr_nodes.specs.declared.node.Node.{Node}
use Rattle.scr_nodes.specs.declared.node.Node.TheVariants as nodes
use Rattle.scr_nodes.specs.declared.node.OfFund.TheVariants as of_funds
use Rattle.scr_nodes.specs.declared.node.OfSecurity.TheVariants as of_securities
use Rattle.scr_nodes.specs.declared.node.Whole.TheVariants as wholes
use Rattle.scr_row_change.specs.Comparisons.{is_kept}
use Rattle.scr_row_change.specs.Readings.{held_kept, is_fund_after}
use Rattle.scr_touched.specs.Comparisons.{is_touched}

-- ---- what is read of a fund, if there is one

abbrev pub is_same_share : Share → Share → Bool
is_same_share a b = (a.before == b.before) && ((a.through == b.through) && (a.all == b.all))

-- the share of what has this name in the fund, if the fund holds it
abbrev pub share_of : List ℕ → Option Stake → Option Share
share_of x None = None
share_of x (Some stake) = if holds x stake then Some (share_in x stake) else None

-- it has the same share before and after, or none
abbrev pub share_kept : List ℕ → Option Stake → Option Stake → Bool
share_kept x old new = option_eq is_same_share (share_of x old) (share_of x new)

-- the fund holds it before as it does after
abbrev pub holder_kept : List ℕ → Option Stake → Option Stake → Bool
holder_kept x old new = beq (is_some (share_of x old)) (is_some (share_of x new))

-- ---- families of figures

abbrev pub fund_touched : BalanceSheet → List ℕ → Option Stake → Option Stake → List ℕ → Bool
fund_touched sheet name old new x =
    is_touched (has_row stake_name x sheet.funds) (is_fund_after sheet name new x)
    (held_kept name old new x && share_kept x old new) (holder_kept x old new)

abbrev pub holding_touched : BalanceSheet → Option Stake → Option Stake → List ℕ → Bool
holding_touched sheet old new x =
    let has = has_row position_name x sheet.securities in
    is_touched has has (share_kept x old new) (holder_kept x old new)

-- ---- all families

-- the fund of this name becomes another, or comes or goes
abbrev pub fund_touches : BalanceSheet → List ℕ → Option Stake → Option Stake → Node → Bool
fund_touches sheet name old new (nodes.Fund x of_funds.Total) = fund_touched sheet name old new x
fund_touches sheet name old new (nodes.Security x of_securities.Total) = holding_touched sheet old new x
fund_touches sheet name old new (nodes.Whole (wholes.ClassSum classes.Type2Equity)) =
    is_touched true true true (is_kept is_closed old new)
fund_touches sheet name old new node = false

-- ---- what may be touched

-- a fund or a security of this name
abbrev pub totals_of : List ℕ → List Node
totals_of name = nodes.Fund name of_funds.Total ∷ nodes.Security name of_securities.Total ∷ []

-- what is held of the components
abbrev pub component_nodes : Option Stake → List Node
component_nodes None = []
component_nodes (Some stake) = flat_map (λ c. totals_of c.0) stake.fund.components

abbrev pub fund_nodes : List ℕ → Option Stake → List Node
fund_nodes name old = nodes.Fund name of_funds.Total ∷ nodes.Whole (wholes.ClassSum classes.Type2Equity) ∷ component_nodes old

-- it is a total of the fund of this name, or of one of its components
abbrev pub is_of_stake : List ℕ → Option Stake → Node → Bool
is_of_stake name stake (nodes.Fund x of_funds.Total) = same_name x name || is_some (share_of x stake)
is_of_stake name stake (nodes.Security x of_securities.Total) = is_some (share_of x stake)
is_of_stake name stake node = false
