use Rattle.std.proofs.Common.{◌≡◌, ◌≤◌, [], Option, sym, ap, subst, ◌∙◌}
use Rattle.std.specs.Option.{option_map_or}
use Rattle.scr_dates.specs.declared.day.Day.{Day}
use Rattle.scr_tables.specs.Tables.{row_of}
use Rattle.scr_counters.specs.Days.{ends_on, IsDayOrNone}
use Rattle.scr_sheet.specs.BalanceSheet.{position_name}
use Rattle.scr_sheet.specs.CashFlows.{last_day}
use Rattle.scr_sheet.specs.Records.{kept_flows}
use Rattle.scr_sheet.specs.declared.rows.Position.{Position}
use Rattle.scr_sheet.specs.declared.sheet.BalanceSheet.{BalanceSheet}
use Rattle.scr_book.specs.LastDays.{lists_ending}
use Rattle.scr_book.proofs.LastDays.{security-part, security-on_day}
use Rattle.scr_book.proofs.ledger.Ledger.last_promised.Goals as goal

kept : (c : goal.After-last_day) → c.last_day.result ≡ last_day (kept_flows c.args.name.now c.args.self.now.securities)
kept c =
    c.last_day.ensures
    ∙ ap (λ (o : Option Position). last_day (option_map_or (λ p. p.security.flows) o [])) (c.in-Some.ensures ∙ ap (λ (s : BalanceSheet). row_of position_name c.args.name.now s.securities) c.sheet.ensures.sheet)

pub returns-in-Some-clause-value : goal.returns-in-Some-clause-value
returns-in-Some-clause-value c = kept c

pub returns-in-Some-clause-on_day : goal.returns-in-Some-clause-on_day
returns-in-Some-clause-on_day c = subst IsDayOrNone (sym (kept c)) (security-on_day c.args.name.now c.args.self.now c.sheet.ensures.valid)

pub returns-in-Some-clause-part : goal.returns-in-Some-clause-part
returns-in-Some-clause-part c day =
    subst (λ (last : Option Day). ends_on day last ≤ lists_ending day c.args.self.now) (sym (kept c)) (security-part day c.args.name.now c.args.self.now)
