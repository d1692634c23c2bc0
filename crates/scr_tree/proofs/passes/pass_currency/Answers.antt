use Rattle.std.proofs.Common.{◌≡◌, Some, slice_get, subst}
use Rattle.scr_sheet.specs.BalanceSheet.{curve_name}
use Rattle.scr_sheet.specs.declared.sheet.BalanceSheet.{BalanceSheet}
use Rattle.scr_tree.proofs.FirstRows.{got-map}
use Rattle.scr_tree.proofs.passes.pass_currency.Goals as goal

pub pass_live-requires-clause-row : goal.pass_live-requires-clause-row
pass_live-requires-clause-row g c =
    got-map curve_name c.args.ground.inputs.book.now.sheet.curves c.args.k c.at.result.now
    (subst (λ (s : BalanceSheet). slice_get s.curves c.args.k ≡ Some c.at.result.now) c.sheet.ensures.sheet c.at.ensures)
