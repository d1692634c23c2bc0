use Rattle.std.proofs.Common.{sym, ◌∙◌}
use Rattle.scr_tables.specs.Tables.{row_of}
use Rattle.scr_tables.proofs.PastRows.{missing}
use Rattle.scr_sheet.specs.BalanceSheet.{stake_name}
use Rattle.scr_sheet.proofs.EarlierSheets.{back-hold_fund, back-hold_security, no_security}
use Rattle.scr_sheet.proofs.sheet.BalanceSheet.before_hold.Goals as goal

pub returns-in_ok-before_put : goal.returns-in_ok-before_put
returns-in_ok-before_put c cents =
    back-hold_fund c.args.self.now c.args.name.now cents c.in_ok-before_put.field-0
    (no_security c.args.self.now c.requires c.args.name.now (sym c.contains.ensures ∙ c.if-contains.true)) c.in_ok-before_put.ensures

pub returns-in_ok-before_put-2 : goal.returns-in_ok-before_put-2
returns-in_ok-before_put-2 c cents =
    back-hold_security c.args.self.now c.args.name.now cents c.in_ok-before_put-2.field-0
    (missing (row_of stake_name c.args.name.now c.args.self.now.funds) (sym c.contains.ensures ∙ c.if-contains.false)) c.in_ok-before_put-2.ensures
