use Rattle.std.proofs.Common.{◌≡◌, true, false, ap, refl, sym, ◌∙◌}
use Rattle.scr_ids.specs.Ranges.{IsOne}
use Rattle.scr_figure_ids.specs.Families.{family_of, table_of}
use Rattle.scr_figure_ids.specs.Numbers.{is_of_sheet}
use Rattle.scr_figure_ids.proofs.Standing.{of-sheet}
use Rattle.scr_figure_ids.proofs.finding.node_at.Goals as goal

pub returns-in_err-place-clause-absent : goal.returns-in_err-place-clause-absent
returns-in_err-place-clause-absent c = λ _ node x. c.in_err-place.ensures.absent refl (table_of node) x.k (family_of node) x.at

pub returns-then-not-is_of_sheet-clause-absent : goal.returns-then-not-is_of_sheet-clause-absent
returns-then-not-is_of_sheet-clause-absent c = λ _ node x.
    let place = c.in_ok-place.place in
    let one : IsOne (table_of node) x.k (family_of node) place.table place.row place.family =
    c.len-size.ensures.apart c.args.number (table_of node) x.k (family_of node) place.table place.row place.family x.at
    c.in_ok-place.ensures.there in
    let of : is_of_sheet place.table ≡ true = ap is_of_sheet (sym one.tables) ∙ of-sheet node in
    let none : is_of_sheet place.table ≡ false = sym c.is_of_sheet.ensures ∙ c.if-not-is_of_sheet.true in
    let clash : true ≡ false = sym of ∙ none in
    absurd (cc)
