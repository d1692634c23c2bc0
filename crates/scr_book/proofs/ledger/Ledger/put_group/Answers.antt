use Rattle.std.proofs.Common.{◌≡◌, List, refl, sym, ap, subst}
use Rattle.scr_sheet.specs.declared.rows.Group.{Group}
use Rattle.scr_sheet.specs.Records.{applied}
use Rattle.scr_book.specs.Kept.{IsKept}
use Rattle.scr_book.specs.declared.ledger.Ledger.TheInside.{Inside}
use Rattle.scr_sheet.specs.declared.edit.Edit.TheVariants as edits
use Rattle.scr_book.proofs.Applied.{kept-still}
use Rattle.scr_book.proofs.ledger.Ledger.put_group.Goals as goal

kept : (c : goal.In_ok-put) → let new : Inside = record c.self.inside { sheet = record c.self.inside.sheet { groups = c.put.new.self } } in IsKept new × (new.sheet ≡ applied (edits.Group c.args.name.now c.args.kind c.args.step) c.args.self.now)
kept c =
    let new : Inside = record c.self.inside { sheet = record c.self.inside.sheet { groups = c.put.new.self } } in
    kept-still c.self.inside new c.args.self.now c.self.view_is c.self.invariant (edits.Group c.args.name.now c.args.kind c.args.step) c.requires.formed c.requires.no_fault refl
    (ap (λ rows. record c.self.inside.sheet { groups = rows }) c.in_ok-put.ensures.ok) refl

pub invariant_of-self-2 : goal.invariant_of-self-2
invariant_of-self-2 c = (kept c).0

pub returns-clause-ok : goal.returns-clause-ok
returns-clause-ok c = (kept c).1

pub invariant_of-self : goal.invariant_of-self
invariant_of-self c =
    subst (λ (rows : List Group). IsKept (record c.self.inside { sheet = record c.self.inside.sheet { groups = rows } })) (sym c.in_err-put.ensures.err) c.self.invariant
