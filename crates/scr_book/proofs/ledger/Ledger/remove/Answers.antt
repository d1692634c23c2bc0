use Rattle.std.proofs.Common.{◌≡◌, refl, sym, ap, subst, ◌∙◌}
use Rattle.scr_sheet.specs.Faults.{fault_of}
use Rattle.scr_sheet.specs.Forms.{Formed}
use Rattle.scr_sheet.specs.Records.{applied}
use Rattle.scr_sheet.specs.declared.keys.Table.{Table}
use Rattle.scr_sheet.specs.declared.keys.Table.TheVariants as tables
use Rattle.scr_book.specs.Kept.{IsKept}
use Rattle.scr_book.specs.declared.ledger.Ledger.TheInside.{Inside}
use Rattle.scr_sheet.specs.declared.edit.Edit.TheVariants as edits
use Rattle.scr_book.proofs.Applied.{kept-still}
use Rattle.scr_book.proofs.ledger.Ledger.remove.Goals as goal

kept-groups : (c : goal.After-remove) → let new : Inside = record c.self.inside { sheet = record c.self.inside.sheet { groups = c.remove.new.self } } in IsKept new × (new.sheet ≡ applied (edits.Remove tables.Group c.args.name.now) c.args.self.now)
kept-groups c =
    let new : Inside = record c.self.inside { sheet = record c.self.inside.sheet { groups = c.remove.new.self } } in
    kept-still c.self.inside new c.args.self.now c.self.view_is c.self.invariant (edits.Remove tables.Group c.args.name.now) (subst (λ (t : Table). Formed (edits.Remove t c.args.name.now)) c.in-Group.is c.requires.formed)
    (sym (ap (λ (t : Table). fault_of (edits.Remove t c.args.name.now) c.args.self.now) c.in-Group.is) ∙ c.requires.no_fault) refl
    (ap (λ rows. record c.self.inside.sheet { groups = rows }) c.remove.ensures) refl

kept-curves : (c : goal.After-remove-in-Curve) → let new : Inside = record c.self-in-Curve.inside { sheet = record c.self-in-Curve.inside.sheet { curves = c.remove-in-Curve.new.self } } in IsKept new × (new.sheet ≡ applied (edits.Remove tables.Curve c.args.name.now) c.args.self.now)
kept-curves c =
    let new : Inside = record c.self-in-Curve.inside { sheet = record c.self-in-Curve.inside.sheet { curves = c.remove-in-Curve.new.self } } in
    kept-still c.self-in-Curve.inside new c.args.self.now c.self-in-Curve.view_is c.self-in-Curve.invariant (edits.Remove tables.Curve c.args.name.now) (subst (λ (t : Table). Formed (edits.Remove t c.args.name.now)) c.in-Curve.is c.requires.formed)
    (sym (ap (λ (t : Table). fault_of (edits.Remove t c.args.name.now) c.args.self.now) c.in-Curve.is) ∙ c.requires.no_fault) refl
    (ap (λ rows. record c.self-in-Curve.inside.sheet { curves = rows }) c.remove-in-Curve.ensures) refl

pub invariant_of-self : goal.invariant_of-self
invariant_of-self c = (kept-groups c).0

pub invariant_of-self-in-Curve : goal.invariant_of-self-in-Curve
invariant_of-self-in-Curve c = (kept-curves c).0
