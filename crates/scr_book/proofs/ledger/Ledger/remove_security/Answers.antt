use Rattle.std.proofs.Common.{◌≡◌, refl, ap, arith}
use Rattle.scr_sheet.specs.Records.{applied}
use Rattle.scr_sheet.specs.declared.edit.Edit.{Edit}
use Rattle.scr_sheet.specs.declared.edit.Edit.TheVariants as edits
use Rattle.scr_sheet.specs.declared.keys.Table.TheVariants as tables
use Rattle.scr_book.specs.Kept.{IsKept}
use Rattle.scr_book.specs.declared.ledger.Ledger.TheInside.{Inside}
use Rattle.scr_book.proofs.LastDays.{days-drop_security}
use Rattle.scr_book.proofs.Applied.{days_now, sums_kept, kept-days}
use Rattle.scr_book.proofs.ledger.Ledger.remove_security.Goals as goal

kept : (c : goal.After-remove) → let new : Inside = record c.self.inside { sheet = record c.self.inside.sheet { securities = c.remove.new.self }; days = c.take.new.self } in IsKept new × (new.sheet ≡ applied (edits.Remove tables.Security c.args.name.now) c.args.self.now)
kept c =
    let new : Inside = record c.self.inside { sheet = record c.self.inside.sheet { securities = c.remove.new.self }; days = c.take.new.self } in
    let edit : Edit = edits.Remove tables.Security c.args.name.now in
    kept-days c.self.inside new c.args.self.now c.self.view_is c.self.invariant edit c.requires.formed c.requires.no_fault refl
    (ap (λ rows. record c.self.inside.sheet { securities = rows }) c.remove.ensures)
    (sums_kept c.self.inside new c.args.self.now c.self.view_is c.self.invariant edit c.requires.formed c.requires.no_fault refl refl)
    (days-drop_security c.args.name.now c.args.self.now c.self.inside.days c.take.new.self c.last_promised-old.result (days_now c.self.inside c.args.self.now c.self.view_is c.self.invariant) c.last_promised-old.ensures.value c.take.ensures)

pub take-requires-clause-counted : goal.take-requires-clause-counted
take-requires-clause-counted c day in_day =
    let own = (days_now c.self.inside c.args.self.now c.self.view_is c.self.invariant).counted day in_day in
    let part = c.last_promised-old.ensures.part day in
    omega (arith, own, part)

pub invariant_of-self : goal.invariant_of-self
invariant_of-self c = (kept c).0

pub returns : goal.returns
returns c = (kept c).1
