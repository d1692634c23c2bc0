-- The shares in an exchanged fund before and after (this project's own).
use Rattle.std.specs.Prelude.{⊤, Option}
use Rattle.scr_tables.specs.Tables.{row_of}
use Rattle.scr_sheet.specs.BalanceSheet.{stake_name}
use Rattle.scr_sheet.specs.declared.rows.Stake.{Stake}
use Rattle.scr_sheet.specs.declared.sheet.BalanceSheet.{BalanceSheet}
use Rattle.scr_touched.specs.Weighed.{AreShares}
use Rattle.scr_row_change.specs.declared.change.Change.{Change}
use Rattle.scr_row_change.specs.declared.change.Change.TheVariants as changes
use Rattle.scr_touched.specs.declared.component.Shares.{Shares}

-- The shares of a fund are known before and after a change of its stake: `old` for the row there is, `new` for the next (own).
pub record AreBothShares (shares : Shares) (old new : Option Stake) : Type 0 where
  pub old_shares : AreShares shares.old old
  pub new_shares : AreShares shares.new new

-- of what is no fund nothing is asked
abbrev pub AreSharesOf : BalanceSheet → Change → Shares → Type 0
AreSharesOf sheet (changes.Fund name new) shares = AreBothShares shares (row_of stake_name name sheet.funds) new
AreSharesOf sheet change shares = ⊤
