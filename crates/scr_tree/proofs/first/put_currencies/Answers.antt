use Rattle.std.proofs.Common.{length, ap, arith}
use Rattle.scr_sheet.specs.BalanceSheet.{curve_name}
use Rattle.scr_sheet.specs.declared.sheet.BalanceSheet.{BalanceSheet}
use Rattle.scr_tree.proofs.Grounds.{as-long, table-done}
use Rattle.scr_tree.proofs.first.put_currencies.Goals as goal

pub returns : goal.returns
returns g c =
    let rows = ap (λ (s : BalanceSheet). length s.curves) c.sheet.ensures.sheet in
    table-done c.args.linked.ground c.requires.linked.ground 6 c.loop-k.k
    (as-long curve_name c.args.linked.ground.inputs.book.now.sheet.curves c.loop-k.k
    (omega (arith, rows, c.loop-k-test.false, c.loop-k.auto.k-end, c.len-k-end.ensures.count)))
    c.loop-k.making.figures c.loop-k.invariant
