use Rattle.std.proofs.Common.{ℤ, ◌<◌, ◌^◌, unsigned_abs, sym, ap, subst, ◌∙◌, arith, w64}
use Rattle.std.proofs.lemmas.Int.{to_z-of_z, fits_signed_from_abs}
use Rattle.scr_sheet.specs.Forms.{Formed}
use Rattle.scr_sheet.specs.Records.{applied}
use Rattle.scr_sheet.specs.declared.edit.Edit.{Edit}
use Rattle.scr_sheet.specs.declared.edit.Edit.TheVariants as edits
use Rattle.scr_book.proofs.ledger.Ledger.put_in_place.Goals as goal

pub returns-in-Hold : goal.returns-in-Hold
returns-in-Hold c =
    let formed : Formed (edits.Hold c.in-Hold.name c.in-Hold.cents) = subst Formed c.in-Hold.is c.requires.formed in
    let small : unsigned_abs c.in-Hold.cents < 2 ^ 63 = let below = formed.1 in omega arith in
    let passed = to_z-of_z w64 c.in-Hold.cents (fits_signed_from_abs w64 c.in-Hold.cents small) in
    c.put_held.ensures ∙ ap (λ (z : ℤ). applied (edits.Hold c.in-Hold.name z) c.args.self.now) passed ∙ sym (ap (λ (e : Edit). applied e c.args.self.now) c.in-Hold.is)
