use Rattle.std.proofs.Common.{Some, None, ap, subst, ◌∙◌}
use Rattle.scr_counters.specs.Days.{IsLast}
use Rattle.scr_sheet.specs.CashFlows.{years_of}
use Rattle.scr_sheet.specs.Validity.{Valid}
use Rattle.scr_book.proofs.Applied.{days_now}
use Rattle.scr_book.proofs.LastYears.{years-counted}
use Rattle.scr_book.proofs.ranges.years_at.Goals as goal

pub maturity-requires-clause-pay_in : goal.maturity-requires-clause-pay_in
maturity-requires-clause-pay_in c = (subst (IsLast c.ledger.inside.days) c.in-Some.is c.last.ensures).0

pub returns-in-Some : goal.returns-in-Some
returns-in-Some c =
    c.years_of.ensures ∙ ap years_of c.maturity.ensures.value
    ∙ years-counted c.args.ledger.now c.ledger.inside.days (subst Valid c.ledger.view_is c.ledger.invariant.valid) (days_now c.ledger.inside c.args.ledger.now c.ledger.view_is c.ledger.invariant) c.args.asof.number (Some c.in-Some.last)
    (subst (IsLast c.ledger.inside.days) c.in-Some.is c.last.ensures)

pub returns-in-None : goal.returns-in-None
returns-in-None c =
    years-counted c.args.ledger.now c.ledger.inside.days (subst Valid c.ledger.view_is c.ledger.invariant.valid) (days_now c.ledger.inside c.args.ledger.now c.ledger.view_is c.ledger.invariant) c.args.asof.number None
    (subst (IsLast c.ledger.inside.days) c.in-None.is c.last.ensures)
