use Rattle.std.proofs.Common.{arith}
use Rattle.scr_sheet.proofs.Sums.{held-part}
use Rattle.scr_book.proofs.ranges.outside_held.Goals as goal

pub overflow_sub-others : goal.overflow_sub-others
overflow_sub-others c = omega (arith, held-part c.args.name.now c.args.ledger.now)
