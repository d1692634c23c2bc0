use Rattle.std.proofs.Common.{subst}
use Rattle.scr_book.specs.RolledSheets.{RolledSheet}
use Rattle.scr_book.specs.Rolls.{KeepsNumbers}
use Rattle.scr_book.proofs.BookMoves.{numbers-here}
use Rattle.scr_book.proofs.book.Book.keep.Goals as goal

pub returns-in_err-aim-clause-numbers : goal.returns-in_err-aim-clause-numbers
returns-in_err-aim-clause-numbers c =
    subst (λ (b : RolledSheet). KeepsNumbers b.rolls c.prepare.new.self) c.self.view_is c.in_err-aim.ensures.err.ready.numbers

pub returns-clause-numbers : goal.returns-clause-numbers
returns-clause-numbers c =
    numbers-here c.args.edit c.in_ok-aim.aim c.self.inside.ledger c.keep_payments.new.self c.sheet.result.now c.sheet-3.result.now c.sheet.ensures.sheet c.sheet-3.ensures.sheet c.keep_payments.ensures
    c.self.inside.rolls c.prepare.new.self c.settle.new.self c.in_ok-aim.ensures.prepared c.settle.ensures c.args.self.now c.self.view_is
