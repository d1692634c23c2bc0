use Rattle.std.proofs.Common.{◌≡◌, ◌≤◌, [], Option, sym, ap, subst, ◌∙◌}
use Rattle.std.specs.Option.{option_map_or}
use Rattle.scr_dates.specs.declared.day.Day.{Day}
use Rattle.scr_tables.specs.Tables.{row_of}
use Rattle.scr_counters.specs.Days.{ends_on, IsDayOrNone}
use Rattle.scr_sheet.specs.BalanceSheet.{liability_name}
use Rattle.scr_sheet.specs.CashFlows.{last_day, flows_under}
use Rattle.scr_sheet.specs.declared.rows.Liability.{Liability}
use Rattle.scr_sheet.specs.declared.sheet.BalanceSheet.{BalanceSheet}
use Rattle.scr_book.specs.LastDays.{lists_ending}
use Rattle.scr_book.proofs.LastDays.{kept_under, projection-part, projection-on_day}
use Rattle.scr_book.proofs.ledger.Ledger.last_projected.Goals as goal

kept : (c : goal.After-last_day) → c.last_day.result ≡ last_day (kept_under c.args.projection c.args.name.now c.args.self.now)
kept c =
    c.last_day.ensures ∙ ap last_day c.under.ensures
    ∙ ap (λ (o : Option Liability). last_day (option_map_or (λ l. flows_under c.args.projection l.flows) o [])) (c.in-Some.ensures ∙ ap (λ (s : BalanceSheet). row_of liability_name c.args.name.now s.liabilities) c.sheet.ensures.sheet)

pub returns-in-Some-clause-value : goal.returns-in-Some-clause-value
returns-in-Some-clause-value c = kept c

pub returns-in-Some-clause-on_day : goal.returns-in-Some-clause-on_day
returns-in-Some-clause-on_day c = subst IsDayOrNone (sym (kept c)) (projection-on_day c.args.projection c.args.name.now c.args.self.now c.sheet.ensures.valid)

pub returns-in-Some-clause-part : goal.returns-in-Some-clause-part
returns-in-Some-clause-part c day =
    subst (λ (last : Option Day). ends_on day last ≤ lists_ending day c.args.self.now) (sym (kept c)) (projection-part day c.args.projection c.args.name.now c.args.self.now)
