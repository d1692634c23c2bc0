use Rattle.std.proofs.Common.{ap, subst, arith}
use Rattle.std.specs.Prelude.{IfSome}
use Rattle.std.specs.Option.{option_copied, option_map_or}
use Rattle.scr_sheet.specs.Validity.{IsLiability}
use Rattle.scr_book.specs.LastDays.{liability_ends}
use Rattle.scr_book.proofs.days.add_liability.Goals as goal

pub add_projected-requires-clause-on_days : goal.add_projected-requires-clause-on_days
add_projected-requires-clause-on_days c projection = (subst (λ o. IfSome (option_copied o) IsLiability) c.in-Some.is c.requires.formed).3 projection

pub add_projected-requires-clause-fits : goal.add_projected-requires-clause-fits
add_projected-requires-clause-fits c day in_day =
    let all = c.requires.fits day in_day in
    let own = ap (λ o. option_map_or (liability_ends day) (option_copied o) 0) c.in-Some.is in
    omega (arith, all, own)

pub returns-in-Some : goal.returns-in-Some
returns-in-Some c day in_day =
    let moved = c.add_projected.ensures day in_day in
    let own = ap (λ o. option_map_or (liability_ends day) (option_copied o) 0) c.in-Some.is in
    omega (arith, moved, own)
