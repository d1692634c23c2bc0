use Rattle.std.proofs.Common.{arith}
use Rattle.scr_sheet.proofs.Sums.{held-part}
use Rattle.scr_book.proofs.ledger.Ledger.held.Goals as goal

pub overflow_add-result : goal.overflow_add-result
overflow_add-result c = omega (arith, held-part c.args.name.now c.self.inside.sheet, c.self.invariant.valid.within.held, c.security_hold.ensures, c.fund_hold.ensures)
