use Rattle.std.proofs.Common.{sym, ap, ◌∙◌, rules, FitsSigned, w64}
use Rattle.std.proofs.lemmas.Int.{to_z-of_z}
use Rattle.std.specs.Option.{option_or}
use Rattle.scr_sheet.specs.Faults.{fields_outside}
use Rattle.scr_sheet.proofs.fields.outside_in_operational.Goals as goal

pub returns-in-Op : goal.returns-in-Op
returns-in-Op c =
    let op = c.in-Op in
    let h1 : FitsSigned w64 op.tpl = search rules in
    let h2 : FitsSigned w64 op.tpul = search rules in
    let h3 : FitsSigned w64 op.tpn = search rules in
    let h4 : FitsSigned w64 op.el = search rules in
    let h5 : FitsSigned w64 op.eul = search rules in
    let h6 : FitsSigned w64 op.pel = search rules in
    let h7 : FitsSigned w64 op.peul = search rules in
    let h8 : FitsSigned w64 op.en = search rules in
    let h9 : FitsSigned w64 op.pen = search rules in
    let h10 : FitsSigned w64 op.expul = search rules in
    let amounts = simp to_z-of_z at c.outside_amounts.ensures in
    let provisions = simp to_z-of_z at c.first_outside.ensures in
    c.or.ensures ∙ (λ i. option_or (amounts i) (provisions i)) ∙ sym (ap fields_outside op.is)
