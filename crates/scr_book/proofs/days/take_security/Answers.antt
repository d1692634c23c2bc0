use Rattle.std.proofs.Common.{sym, ap, subst, arith}
use Rattle.std.specs.Prelude.{IfSome}
use Rattle.std.specs.Option.{option_copied, option_map_or}
use Rattle.scr_counters.specs.Days.{ends_on, IsDayOrNone}
use Rattle.scr_sheet.specs.Validity.{IsSecurity}
use Rattle.scr_book.specs.LastDays.{security_ends}
use Rattle.scr_book.proofs.LastDays.{on_day}
use Rattle.scr_book.proofs.days.take_security.Goals as goal

pub take-requires-clause-day : goal.take-requires-clause-day
take-requires-clause-day c =
    let formed = subst (λ o. IfSome (option_copied o) IsSecurity) c.in-Some.is c.requires.formed in
    subst IsDayOrNone (sym c.last_day.ensures) (on_day c.in-Some.position.now.security.flows formed.4.0)

pub take-requires-clause-counted : goal.take-requires-clause-counted
take-requires-clause-counted c day in_day =
    let all = c.requires.counted day in_day in
    let own = ap (λ o. option_map_or (security_ends day) (option_copied o) 0) c.in-Some.is in
    let last = ap (ends_on day) c.last_day.ensures in
    omega (arith, all, own, last)

pub returns-in-Some : goal.returns-in-Some
returns-in-Some c day in_day =
    let moved = c.take.ensures day in_day in
    let own = ap (λ o. option_map_or (security_ends day) (option_copied o) 0) c.in-Some.is in
    let last = ap (ends_on day) c.last_day.ensures in
    omega (arith, moved, own, last)
