use Rattle.std.proofs.Common.{◌≡◌, ℕ, ℤ, ◌+◌, ◌-◌, List, get_or, sym, ap, subst, ◌∙◌, arith, rules, refl}
use Rattle.scr_dates.specs.declared.day.Day.{Day}
use Rattle.scr_sheet.specs.BalanceSheet.{liability_name}
use Rattle.scr_sheet.specs.CashFlows.{total, with_flows}
use Rattle.scr_tables.specs.Tables.{changed}
use Rattle.scr_sheet.specs.Records.{applied}
use Rattle.scr_sheet.specs.declared.edit.Edit.{Edit}
use Rattle.scr_sheet.specs.declared.rows.Liability.{Liability}
use Rattle.scr_book.specs.Sums.{AreSumsOf, place_of}
use Rattle.scr_book.specs.Kept.{IsKept}
use Rattle.scr_book.specs.declared.ledger.Ledger.TheInside.{Inside}
use Rattle.scr_sheet.specs.declared.edit.Edit.TheVariants as edits
use Rattle.scr_book.proofs.Moved.{liability_there, liability_part, liability_part-le, liability_flows-moved, liability_flows-most, liability_flows-carried, sums-liability_flows}
use Rattle.scr_sheet.specs.Validity.{Valid}
use Rattle.scr_counters.specs.Days.{IsDayOrNone}
use Rattle.scr_book.proofs.LastDays.{has_room, on_day, flows-on_days, days-projected}
use Rattle.scr_book.proofs.Applied.{changed-from, sums_now, days_now, kept-days}
use Rattle.scr_book.proofs.ledger.Ledger.keep_projected.Goals as goal

pub overflow_cast-new : goal.overflow_cast-new
overflow_cast-new c =
    let moved = liability_flows-moved c.args.name.now c.args.projection c.args.flows c.args.self.now c.requires.no_fault in
    let most = liability_flows-most c.args.name.now c.args.projection c.args.flows c.args.self.now c.requires.no_fault in
    omega (arith, c.total-new.ensures.sum)

pub exchange_liability_flows-requires-clause-part : goal.exchange_liability_flows-requires-clause-part
exchange_liability_flows-requires-clause-part c =
    let part = liability_part-le c.args.name.now c.args.projection c.args.flows c.args.self.now c.requires.no_fault c.self.inside.sums (sums_now c.self.inside c.args.self.now c.self.view_is c.self.invariant) in
    omega (arith, c.liability_total-old.ensures.value)

pub exchange_liability_flows-requires-clause-fits : goal.exchange_liability_flows-requires-clause-fits
exchange_liability_flows-requires-clause-fits c =
    let carried = liability_flows-carried c.args.name.now c.args.projection c.args.flows c.args.self.now c.requires.no_fault c.self.inside.sums (sums_now c.self.inside c.args.self.now c.self.view_is c.self.invariant) in
    let most = liability_flows-most c.args.name.now c.args.projection c.args.flows c.args.self.now c.requires.no_fault in
    omega (arith, c.total-new.ensures.sum, c.liability_total-old.ensures.value)

kept : (c : goal.After-exchange_liability_flows) → let new : Inside = record c.self.inside { sheet = record c.self.inside.sheet { liabilities = c.change.new.self }; days = c.add.new.self; sums = c.exchange_liability_flows.new.self } in
    IsKept new × (new.sheet ≡ applied (edits.LiabilityFlows c.args.name.now c.args.projection c.args.flows) c.args.self.now)
kept c =
    let new : Inside = record c.self.inside { sheet = record c.self.inside.sheet { liabilities = c.change.new.self }; days = c.add.new.self; sums = c.exchange_liability_flows.new.self } in
    let edit : Edit = edits.LiabilityFlows c.args.name.now c.args.projection c.args.flows in
    let change : List (Day × ℤ) → Liability → Liability = λ flows l. record l { flows = with_flows c.args.projection flows l.flows } in
    let written : c.change.new.self ≡ changed liability_name (change c.args.flows) c.args.name.now c.self.inside.sheet.liabilities =
    changed-from liability_name (change c.args.flows) _ c.args.name.now c.self.inside.sheet.liabilities c.change.new.self (λ old row ran. search rules) c.change.ensures in
    let n : ℕ = get_or c.self.inside.sums.liability_flows (place_of c.args.projection) 0 - c.liability_total-old.result + c.total-new.result in
    let sum : n ≡ get_or c.self.inside.sums.liability_flows (place_of c.args.projection) 0 - liability_part c.args.projection c.args.name.now c.args.self.now + total c.args.flows =
    ap (λ m. get_or c.self.inside.sums.liability_flows (place_of c.args.projection) 0 - m + c.total-new.result) c.liability_total-old.ensures.value
    ∙ ap (λ m. get_or c.self.inside.sums.liability_flows (place_of c.args.projection) 0 - liability_part c.args.projection c.args.name.now c.args.self.now + m) c.total-new.ensures.sum in
    kept-days c.self.inside new c.args.self.now c.self.view_is c.self.invariant edit c.requires.formed c.requires.no_fault refl
    (ap (λ rows. record c.self.inside.sheet { liabilities = rows }) written)
    (subst (AreSumsOf (applied edit c.args.self.now)) (sym c.exchange_liability_flows.ensures)
    (sums-liability_flows c.args.name.now c.args.projection c.args.flows c.args.self.now c.requires.no_fault c.self.inside.sums n (sums_now c.self.inside c.args.self.now c.self.view_is c.self.invariant) sum))
    (let row = liability_there c.args.name.now c.args.projection c.args.flows c.args.self.now c.requires.no_fault in
    days-projected c.args.name.now c.args.projection c.args.flows c.args.self.now row.0 row.1 c.self.inside.days c.take.new.self c.add.new.self c.last_projected-last.result c.last_day.result (days_now c.self.inside c.args.self.now c.self.view_is c.self.invariant)
    c.last_projected-last.ensures.value c.last_day.ensures (c.take.ensures, c.add.ensures))

pub invariant_of-self : goal.invariant_of-self
invariant_of-self c = (kept c).0

pub returns : goal.returns
returns c = (kept c).1

pub take-requires-clause-counted : goal.take-requires-clause-counted
take-requires-clause-counted c day in_day =
    let own = (days_now c.self.inside c.args.self.now c.self.view_is c.self.invariant).counted day in_day in
    let part = c.last_projected-last.ensures.part day in
    omega (arith, own, part)

pub add-requires-clause-day : goal.add-requires-clause-day
add-requires-clause-day c = subst IsDayOrNone (sym c.last_day.ensures) (on_day c.args.flows (flows-on_days c.args.flows c.requires.formed.1))

pub add-requires-clause-fits : goal.add-requires-clause-fits
add-requires-clause-fits c =
    has_room c.args.self.now c.self.inside.days c.take.new.self c.last_projected-last.result c.last_day.result (subst Valid c.self.view_is c.self.invariant.valid) (days_now c.self.inside c.args.self.now c.self.view_is c.self.invariant) c.take.ensures
