use Rattle.std.proofs.Common.{◌≡◌, None, subst}
use Rattle.scr_sheet.specs.Faults.{unknown_name, wrong_kind, in_use, cycle, out_of_range}
use Rattle.scr_sheet.specs.declared.sheet.BalanceSheet.{BalanceSheet}
use Rattle.scr_book.specs.RolledSheets.{RolledSheet}
use Rattle.scr_book.proofs.NoFault.{none_of_six}
use Rattle.scr_book.proofs.checks.passes.Goals as goal

pub returns-then-is_in_place : goal.returns-then-is_in_place
returns-then-is_in_place c is =
    let edit = c.args.edit.now in
    let sheet = c.args.book.now.sheet in
    let place = c.is_in_place.ensures in
    none_of_six edit sheet (place.list c.if-is_in_place.true)
    (subst (λ (s : BalanceSheet). unknown_name edit s ≡ None) c.sheet.ensures.sheet (place.known c.if-is_in_place.true))
    (subst (λ (s : BalanceSheet). wrong_kind edit s ≡ None) c.sheet.ensures.sheet (place.kind c.if-is_in_place.true))
    (subst (λ (s : BalanceSheet). in_use edit s ≡ None) c.sheet.ensures.sheet (place.free c.if-is_in_place.true))
    (subst (λ (s : BalanceSheet). cycle edit s ≡ None) c.sheet.ensures.sheet (place.apart c.if-is_in_place.true))
    (subst (λ (b : RolledSheet). out_of_range edit b.sheet ≡ None) c.book.view_is (c.is_within.ensures is))
