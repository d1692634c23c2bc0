-- Row indexes of funds and groups, gathered as lists for the sources of figures (own).
use Rattle.std.specs.Prelude.{◌≡◌, List, map}
use Rattle.scr_profile.specs.DefaultClasses.{default_classes}
use Rattle.scr_sheet.specs.BalanceSheet.{position_name, stake_name}
use Rattle.scr_sheet.specs.declared.{rows.Stake.Stake, sheet.BalanceSheet.BalanceSheet}
use Rattle.scr_nodes.specs.Rows.{holds, is_of_default_class}
use Rattle.scr_figure_ids.specs.Places.{places_by}
use Rattle.scr_figure_ids.specs.declared.{gathered.FundLists.FundLists, gathered.Members.Members}

-- For each security and each fund of the sheet, the indexes of the funds among `rows` that hold it (own).
pub record AreFundLists (sheet : BalanceSheet) (rows : List Stake) (lists : FundLists) : Type 0 where
  pub holding_securities : lists.holding_securities ≡ places_by holds (map position_name sheet.securities) rows
  pub holding_funds : lists.holding_funds ≡ places_by holds (map stake_name sheet.funds) rows

-- The lists hold all funds by their components, and all groups by their class of default probabilities (own).
pub record AreMembersOf (sheet : BalanceSheet) (members : Members) : Type 0 where
  pub funds : AreFundLists sheet sheet.funds members.funds
  pub groups : members.groups ≡ places_by is_of_default_class default_classes sheet.groups
