use Rattle.std.proofs.Common.{sym, subst}
use Rattle.scr_sheet.specs.Earlier.{LeadsBack}
use Rattle.scr_sheet.specs.declared.earlier.Earlier.TheVariants as earlier
use Rattle.scr_sheet.specs.declared.edit.Edit.TheVariants as edits
use Rattle.scr_sheet.specs.declared.keys.AbsorbKey.{AbsorbKey}
use Rattle.scr_sheet.proofs.EarlierSheets.{back-absorb_up, back-absorb_down}
use Rattle.scr_sheet.proofs.sheet.BalanceSheet.before_absorb.Goals as goal

pub returns-in_ok-before_put-in-CurrencyUp : goal.returns-in_ok-before_put-in-CurrencyUp
returns-in_ok-before_put-in-CurrencyUp c cents =
    let past = c.in_ok-before_put-in-CurrencyUp.field-0 in
    subst (λ (key : AbsorbKey). LeadsBack (earlier.Curves past) (edits.Absorb key cents) c.args.self.now) (sym c.in-CurrencyUp.is)
    (back-absorb_up c.args.self.now c.in-CurrencyUp.currency cents past c.in_ok-before_put-in-CurrencyUp.ensures)

pub returns-in_ok-before_put-in-CurrencyDown : goal.returns-in_ok-before_put-in-CurrencyDown
returns-in_ok-before_put-in-CurrencyDown c cents =
    let past = c.in_ok-before_put-in-CurrencyDown.field-0 in
    subst (λ (key : AbsorbKey). LeadsBack (earlier.Curves past) (edits.Absorb key cents) c.args.self.now) (sym c.in-CurrencyDown.is)
    (back-absorb_down c.args.self.now c.in-CurrencyDown.currency cents past c.in_ok-before_put-in-CurrencyDown.ensures)
