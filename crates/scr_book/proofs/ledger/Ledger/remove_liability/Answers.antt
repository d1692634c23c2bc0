use Rattle.std.proofs.Common.{◌≡◌, Some, sym, ap, subst, ◌∙◌, refl, arith}
use Rattle.scr_sheet.specs.BalanceSheet.{liability_name}
use Rattle.scr_sheet.specs.declared.sheet.BalanceSheet.{BalanceSheet}
use Rattle.scr_sheet.specs.Records.{applied}
use Rattle.scr_tables.specs.Tables.{row_of}
use Rattle.scr_sheet.specs.declared.edit.Edit.{Edit}
use Rattle.scr_book.specs.Sums.{AreSumsOf}
use Rattle.scr_sheet.specs.declared.keys.Table.TheVariants as tables
use Rattle.scr_book.specs.Kept.{IsKept}
use Rattle.scr_book.specs.declared.ledger.Ledger.TheInside.{Inside}
use Rattle.scr_sheet.specs.declared.edit.Edit.TheVariants as edits
use Rattle.scr_book.proofs.Moved.{liability-le, sums-drop_liability}
use Rattle.scr_book.proofs.LastDays.{liability-part, liability-formed, days-drop_liability}
use Rattle.scr_book.proofs.Applied.{sums_now, days_now, kept-days}
use Rattle.scr_book.proofs.ledger.Ledger.remove_liability.Goals as goal

pub take_liability-requires : goal.take_liability-requires
take_liability-requires c =
    record { part = λ projection. liability-le c.args.name.now c.self.inside.sheet c.in-Some.liability.now (sym c.in-Some.ensures) c.self.inside.sums c.self.invariant.sums projection }

kept : (c : goal.After-remove) → let new : Inside = record c.self.inside { sheet = record c.self.inside.sheet { liabilities = c.remove.new.self }; days = c.take_projected.new.days; sums = c.take_liability.new.self } in IsKept new × (new.sheet ≡ applied (edits.Remove tables.Liability c.args.name.now) c.args.self.now)
kept c =
    let new : Inside = record c.self.inside { sheet = record c.self.inside.sheet { liabilities = c.remove.new.self }; days = c.take_projected.new.days; sums = c.take_liability.new.self } in
    let edit : Edit = edits.Remove tables.Liability c.args.name.now in
    let found : row_of liability_name c.args.name.now c.args.self.now.liabilities ≡ Some c.in-Some.liability.now = ap (λ (s : BalanceSheet). row_of liability_name c.args.name.now s.liabilities) (sym c.self.view_is) ∙ sym c.in-Some.ensures in
    kept-days c.self.inside new c.args.self.now c.self.view_is c.self.invariant edit c.requires.formed c.requires.no_fault refl
    (ap (λ rows. record c.self.inside.sheet { liabilities = rows }) c.remove.ensures)
    (subst (AreSumsOf (applied edit c.args.self.now)) (sym c.take_liability.ensures)
    (sums-drop_liability c.args.name.now c.args.self.now c.in-Some.liability.now found c.self.inside.sums (sums_now c.self.inside c.args.self.now c.self.view_is c.self.invariant)))
    (days-drop_liability c.args.name.now c.args.self.now c.in-Some.liability.now found c.self.inside.days c.take_projected.new.days (days_now c.self.inside c.args.self.now c.self.view_is c.self.invariant) c.take_projected.ensures)

pub invariant_of-self : goal.invariant_of-self
invariant_of-self c = (kept c).0

pub returns : goal.returns
returns c = (kept c).1

pub take_projected-requires-clause-on_days : goal.take_projected-requires-clause-on_days
take_projected-requires-clause-on_days c projection = liability-formed c.args.name.now c.self.inside.sheet c.in-Some.liability.now (sym c.in-Some.ensures) c.self.invariant.valid projection

pub take_projected-requires-clause-counted : goal.take_projected-requires-clause-counted
take_projected-requires-clause-counted c day in_day =
    let own = c.self.invariant.days.counted day in_day in
    let part = liability-part day c.args.name.now c.self.inside.sheet c.in-Some.liability.now (sym c.in-Some.ensures) in
    omega (arith, own, part)
