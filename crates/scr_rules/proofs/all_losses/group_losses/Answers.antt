use Rattle.std.proofs.Common.{length, ap, arith}
use Rattle.scr_sheet.specs.declared.sheet.BalanceSheet.{BalanceSheet}
use Rattle.scr_rules.proofs.GroupSums.{all-entered}
use Rattle.scr_rules.proofs.all_losses.group_losses.Goals as goal

pub returns : goal.returns
returns c =
    let same = ap (λ (sheet : BalanceSheet). length sheet.reinsurers) c.sheet-sheet.ensures.sheet in
    all-entered c.args.book.now.sheet (length c.args.book.now.sheet.banks) c.loop-k-2.k c.loop-k-2.sums.items (omega arith)
    (omega (arith, c.loop-k-2-test.false, c.len-k-end-2.ensures.count, same)) c.loop-k-2.invariant
