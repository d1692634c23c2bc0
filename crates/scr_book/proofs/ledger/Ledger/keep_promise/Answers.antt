use Rattle.std.proofs.Common.{◌≡◌, refl, sym, ap, subst, rules, arith}
use Rattle.scr_counters.specs.Days.{IsDayOrNone}
use Rattle.scr_sheet.specs.BalanceSheet.{position_name}
use Rattle.scr_tables.specs.Tables.{changed}
use Rattle.scr_sheet.specs.Records.{applied}
use Rattle.scr_book.specs.Kept.{IsKept}
use Rattle.scr_book.specs.declared.ledger.Ledger.TheInside.{Inside}
use Rattle.scr_sheet.specs.declared.edit.Edit.TheVariants as edits
use Rattle.scr_sheet.specs.Validity.{Valid}
use Rattle.scr_book.proofs.LastDays.{has_room, on_day, flows-on_days, days-flows}
use Rattle.scr_book.proofs.Applied.{changed-from, days_now, sums_kept, kept-days}
use Rattle.scr_book.proofs.ledger.Ledger.keep_promise.Goals as goal

written : (c : goal.After-change) → c.change.new.self ≡ changed position_name (λ p. record p { security = record p.security { flows = c.args.flows } }) c.args.name.now c.self.inside.sheet.securities
written c =
    changed-from position_name (λ p. record p { security = record p.security { flows = c.args.flows } }) _ c.args.name.now c.self.inside.sheet.securities c.change.new.self (λ old new ran. search rules)
    c.change.ensures

kept : (c : goal.After-change) → let new : Inside = record c.self.inside { sheet = record c.self.inside.sheet { securities = c.change.new.self }; days = c.add.new.self } in IsKept new × (new.sheet ≡ applied (edits.Flows c.args.name.now c.args.flows) c.args.self.now)
kept c =
    let new : Inside = record c.self.inside { sheet = record c.self.inside.sheet { securities = c.change.new.self }; days = c.add.new.self } in
    kept-days c.self.inside new c.args.self.now c.self.view_is c.self.invariant (edits.Flows c.args.name.now c.args.flows) c.requires.formed c.requires.no_fault refl
    (ap (λ rows. record c.self.inside.sheet { securities = rows })
    (written c))
    (sums_kept c.self.inside new c.args.self.now c.self.view_is c.self.invariant (edits.Flows c.args.name.now c.args.flows) c.requires.formed c.requires.no_fault refl refl)
    (days-flows c.args.name.now c.args.flows c.args.self.now c.requires.no_fault c.self.inside.days c.take.new.self c.add.new.self c.last_promised-old.result c.last_day.result (days_now c.self.inside c.args.self.now c.self.view_is c.self.invariant)
    c.last_promised-old.ensures.value c.last_day.ensures (c.take.ensures, c.add.ensures))

pub invariant_of-self : goal.invariant_of-self
invariant_of-self c = (kept c).0

pub returns : goal.returns
returns c = (kept c).1

pub take-requires-clause-counted : goal.take-requires-clause-counted
take-requires-clause-counted c day in_day =
    let own = (days_now c.self.inside c.args.self.now c.self.view_is c.self.invariant).counted day in_day in
    let part = c.last_promised-old.ensures.part day in
    omega (arith, own, part)

pub add-requires-clause-day : goal.add-requires-clause-day
add-requires-clause-day c = subst IsDayOrNone (sym c.last_day.ensures) (on_day c.args.flows (flows-on_days c.args.flows c.requires.formed.1))

pub add-requires-clause-fits : goal.add-requires-clause-fits
add-requires-clause-fits c =
    has_room c.args.self.now c.self.inside.days c.take.new.self c.last_promised-old.result c.last_day.result (subst Valid c.self.view_is c.self.invariant.valid) (days_now c.self.inside c.args.self.now c.self.view_is c.self.invariant) c.take.ensures
