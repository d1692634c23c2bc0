use Rattle.std.proofs.Common.{◌+◌, sym, ◌∙◌, arith}
use Rattle.jiff_core.proofs.SignedLemmas.{signed_arith}
use Rattle.scr_dates.proofs.Anniversaries.{Found, year-le, later_is, other_is, anniversary_before, anniversary_reached, found_next, found_same}
use Rattle.scr_dates.proofs.years.years_to.Goals as goal

pub years_between-years-requires : goal.years_between-years-requires
years_between-years-requires c = year-le c.date_of-start.result c.date_of-end.result (omega (arith, signed_arith))

early : (c : goal.Then-is_later_in_year) → Found c.args.asof.number c.args.pay.number (c.years_between-years.result + 1)
early c =
    let start = c.date_of-start.ensures in
    let end = c.date_of-end.ensures in
    let before = anniversary_before c.date_of-start.result c.date_of-end.result c.years_between-years.result c.years_between-years.ensures
    (later_is c.date_of-start.result.month c.date_of-end.result.month c.date_of-start.result.day c.date_of-end.result.day
    (sym c.is_later_in_year.ensures ∙ c.if-is_later_in_year.true)) in
    rw (start, end) at
    (found_next c.date_of-start.result c.date_of-end.result c.years_between-years.result (omega (arith, signed_arith))
    (omega (arith, signed_arith)) c.years_between-years.ensures before)

pub returns-then-is_later_in_year-clause-value : goal.returns-then-is_later_in_year-clause-value
returns-then-is_later_in_year-clause-value c = (early c).value

pub returns-then-is_later_in_year-clause-least : goal.returns-then-is_later_in_year-clause-least
returns-then-is_later_in_year-clause-least c = (early c).least

late : (c : goal.Else-is_later_in_year) → Found c.args.asof.number c.args.pay.number c.years_between-years.result
late c =
    let start = c.date_of-start.ensures in
    let end = c.date_of-end.ensures in
    let reached = anniversary_reached c.date_of-start.result c.date_of-end.result c.years_between-years.result c.years_between-years.ensures
    (other_is c.date_of-start.result.month c.date_of-end.result.month c.date_of-start.result.day c.date_of-end.result.day
    (sym c.is_later_in_year.ensures ∙ c.if-is_later_in_year.false)) in
    rw (start, end) at
    (found_same c.date_of-start.result c.date_of-end.result c.years_between-years.result (omega (arith, signed_arith))
    (omega (arith, signed_arith)) c.years_between-years.ensures reached)

pub returns-else-is_later_in_year-clause-value : goal.returns-else-is_later_in_year-clause-value
returns-else-is_later_in_year-clause-value c = (late c).value

pub returns-else-is_later_in_year-clause-least : goal.returns-else-is_later_in_year-clause-least
returns-else-is_later_in_year-clause-least c = (late c).least
