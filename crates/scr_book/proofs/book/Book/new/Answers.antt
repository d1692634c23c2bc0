use Rattle.std.proofs.Common.{sym, subst}
use Rattle.scr_sheet.specs.declared.sheet.BalanceSheet.{BalanceSheet}
use Rattle.scr_book.specs.Rolls.{AreRollsOf}
use Rattle.scr_book.proofs.book.Book.new.Goals as goal

pub invariant_of-result : goal.invariant_of-result
invariant_of-result c = record {
  users = c.uncounted.ensures _;
  rolls = subst (λ (s : BalanceSheet). AreRollsOf s c.in_ok-rolls.rolls) (sym c.in_ok-ledger.ensures) c.in_ok-rolls.ensures.rolls;
}
