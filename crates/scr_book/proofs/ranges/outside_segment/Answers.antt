use Rattle.std.proofs.Common.{◌≡◌, ℕ, ◌+◌, ◌-◌, Some, sym, ap, ◌∙◌, rules, FitsSigned, w64}
use Rattle.std.proofs.lemmas.Int.{to_z-of_z}
use Rattle.scr_sheet.specs.BalanceSheet.{volumes_total}
use Rattle.scr_sheet.specs.Faults.{above, sheet_outside}
use Rattle.scr_sheet.specs.Records.{applied, natural}
use Rattle.scr_sheet.specs.Volumes.{volumes_in}
use Rattle.scr_sheet.specs.declared.edit.Edit.{Edit}
use Rattle.scr_sheet.specs.declared.fault.Quantity.TheVariants as quantities
use Rattle.scr_profile.specs.declared.limits.TheConstants.{MAX_AMOUNT}
use Rattle.scr_sheet.proofs.Sums.{volumes-part}
use Rattle.scr_sheet.proofs.Quiet.{outside-segment}
use Rattle.scr_book.proofs.ranges.outside_segment.Goals as goal

pub outside_volumes-requires : goal.outside_volumes-requires
outside_volumes-requires c =
    let book = c.args.ledger.now in
    let op = c.in-Segment in
    let is : volumes_in op.set op.number op.region book.numbers ≡ Some c.volumes-old.result = cc in
    volumes-part op.set op.number op.region book c.volumes-old.result is

pub returns-in-Segment : goal.returns-in-Segment
returns-in-Segment c =
    let book = c.args.ledger.now in
    let op = c.in-Segment in
    let old : ℕ × ℕ = c.volumes-old.result in
    let is : volumes_in op.set op.number op.region book.numbers ≡ Some old = cc in
    let fits_premium : FitsSigned w64 op.premium = search rules in
    let fits_reserve : FitsSigned w64 op.reserve = search rules in
    let premium = simp to_z-of_z at c.natural.ensures in
    let reserve = simp to_z-of_z at c.natural-in-Segment.ensures in
    c.outside_volumes.ensures
    ∙ ap (λ (n : ℕ). above quantities.Volumes (volumes_total op.set book - (old.0 + old.1) + (n + c.natural-in-Segment.result)) MAX_AMOUNT) premium
    ∙ ap (λ (n : ℕ). above quantities.Volumes (volumes_total op.set book - (old.0 + old.1) + (natural op.premium + n)) MAX_AMOUNT) reserve
    ∙ sym (outside-segment book c.sheet.ensures.valid op.set op.number op.region op.premium op.reserve old is)
    ∙ sym (ap (λ (e : Edit). sheet_outside e (applied e book)) op.is)
