use Rattle.std.proofs.Common.{sym, ap, ◌∙◌}
use Rattle.std.specs.Option.{option_map_or}
use Rattle.scr_sheet.specs.CashFlows.{years_of}
use Rattle.scr_dates.proofs.LastDays.{years_at, years-last, last-on_day}
use Rattle.scr_book.proofs.ranges.years.Goals as goal

pub maturity-requires-clause-pay_in : goal.maturity-requires-clause-pay_in
maturity-requires-clause-pay_in c = last-on_day c.args.flows.now c.in-Some.last c.requires.on_days (sym c.last_day.ensures ∙ c.in-Some.is)

pub returns-in-Some : goal.returns-in-Some
returns-in-Some c =
    c.years_of.ensures ∙ ap years_of c.maturity.ensures.value
    ∙ sym (years-last c.args.asof.number c.args.flows.now ∙ ap (λ o. option_map_or (λ day. years_at c.args.asof.number day) o 0) (sym c.last_day.ensures ∙ c.in-Some.is))

pub returns-in-None : goal.returns-in-None
returns-in-None c = sym (years-last c.args.asof.number c.args.flows.now ∙ ap (λ o. option_map_or (λ day. years_at c.args.asof.number day) o 0) (sym c.last_day.ensures ∙ c.in-None.is))
