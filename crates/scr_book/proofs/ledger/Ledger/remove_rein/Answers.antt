use Rattle.std.proofs.Common.{◌≡◌, ℕ, ◌-◌, ap, arith, refl}
use Rattle.scr_sheet.specs.Records.{applied}
use Rattle.scr_sheet.proofs.Sums.{defaults-part_rein}
use Rattle.scr_sheet.specs.declared.keys.Table.TheVariants as tables
use Rattle.scr_book.specs.Kept.{IsKept}
use Rattle.scr_book.specs.declared.ledger.Ledger.TheInside.{Inside}
use Rattle.scr_sheet.specs.declared.edit.Edit.TheVariants as edits
use Rattle.scr_book.proofs.Moved.{sums-drop_rein}
use Rattle.scr_book.proofs.Applied.{sums_now, kept-applied}
use Rattle.scr_book.proofs.ledger.Ledger.remove_rein.Goals as goal

kept : (c : goal.After-self-1) → let defaults : ℕ = c.self.inside.sums.defaults - c.rein_total-old.result in
    let new : Inside = record c.self.inside { sheet = record c.self.inside.sheet { reinsurers = c.remove.new.self }; sums = record c.self.inside.sums { defaults = defaults } } in IsKept new × (new.sheet ≡ applied (edits.Remove tables.Rein c.args.name.now) c.args.self.now)
kept c =
    let defaults : ℕ = c.self.inside.sums.defaults - c.rein_total-old.result in
    let new : Inside = record c.self.inside { sheet = record c.self.inside.sheet { reinsurers = c.remove.new.self }; sums = record c.self.inside.sums { defaults = defaults } } in
    kept-applied c.self.inside new c.args.self.now c.self.view_is c.self.invariant (edits.Remove tables.Rein c.args.name.now) c.requires.formed c.requires.no_fault refl
    (ap (λ rows. record c.self.inside.sheet { reinsurers = rows }) c.remove.ensures)
    (sums-drop_rein c.args.name.now c.args.self.now c.self.inside.sums defaults (sums_now c.self.inside c.args.self.now c.self.view_is c.self.invariant) (ap (λ n. c.self.inside.sums.defaults - n) c.rein_total-old.ensures.value))

pub overflow_sub-self : goal.overflow_sub-self
overflow_sub-self c =
    let are = sums_now c.self.inside c.args.self.now c.self.view_is c.self.invariant in
    omega (arith, are.defaults, defaults-part_rein c.args.name.now c.args.self.now, c.rein_total-old.ensures.value)

pub invariant_of-self : goal.invariant_of-self
invariant_of-self c = (kept c).0

pub returns : goal.returns
returns c = (kept c).1
