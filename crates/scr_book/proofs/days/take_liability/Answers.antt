use Rattle.std.proofs.Common.{ap, subst, arith}
use Rattle.std.specs.Prelude.{IfSome}
use Rattle.std.specs.Option.{option_copied, option_map_or}
use Rattle.scr_sheet.specs.Validity.{IsLiability}
use Rattle.scr_book.specs.LastDays.{liability_ends}
use Rattle.scr_book.proofs.days.take_liability.Goals as goal

pub take_projected-requires-clause-on_days : goal.take_projected-requires-clause-on_days
take_projected-requires-clause-on_days c projection = (subst (λ o. IfSome (option_copied o) IsLiability) c.in-Some.is c.requires.formed).3 projection

pub take_projected-requires-clause-counted : goal.take_projected-requires-clause-counted
take_projected-requires-clause-counted c day in_day =
    let all = c.requires.counted day in_day in
    let own = ap (λ o. option_map_or (liability_ends day) (option_copied o) 0) c.in-Some.is in
    omega (arith, all, own)

pub returns-in-Some : goal.returns-in-Some
returns-in-Some c day in_day =
    let moved = c.take_projected.ensures day in_day in
    let own = ap (λ o. option_map_or (liability_ends day) (option_copied o) 0) c.in-Some.is in
    omega (arith, moved, own)
