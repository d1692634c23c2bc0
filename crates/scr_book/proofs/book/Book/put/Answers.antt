use Rattle.std.proofs.Common.{sym, ap, subst, ◌∙◌}
use Rattle.scr_sheet.specs.Records.{applied}
use Rattle.scr_sheet.specs.declared.sheet.BalanceSheet.{BalanceSheet}
use Rattle.scr_book.specs.RolledSheets.{RolledSheet}
use Rattle.scr_book.specs.Rolls.{AreRollsOf, AreSame, KeepsNumbers}
use Rattle.scr_book.specs.Users.{AreUsersOf}
use Rattle.scr_book.specs.Verbs.{takes_no_memory}
use Rattle.scr_book.proofs.BookMoves.{awaited, goes-here, moved-here, numbers-here, returns-here, rolls-here, takes-memory}
use Rattle.scr_book.proofs.book.Book.put.Goals as goal

pub prepare-requires-clause-rolls : goal.prepare-requires-clause-rolls
prepare-requires-clause-rolls c = subst (λ (s : BalanceSheet). AreRollsOf s c.self.inside.rolls) (sym c.sheet.ensures.sheet) c.self.invariant.rolls

pub settle-requires : goal.settle-requires
settle-requires c =
    awaited c.args.edit.now c.in_ok-aim.aim c.self.inside.ledger c.put.new.self c.sheet.result.now c.sheet-in-Ok.result.now c.sheet.ensures.sheet c.sheet-in-Ok.ensures.sheet c.in-Ok.ensures.ok
    c.prepare.new.self c.in_ok-aim.ensures.prepared.awaits

pub invariant_of-self-in-Ok : goal.invariant_of-self-in-Ok
invariant_of-self-in-Ok c = record {
  users = subst (λ (s : BalanceSheet). AreUsersOf s c.exchange.new.self) (ap (applied c.args.edit.now) c.sheet-2.ensures.sheet ∙ sym c.in-Ok.ensures.ok) c.exchange.ensures;
  rolls = rolls-here c.args.edit.now c.in_ok-aim.aim c.self.inside.ledger c.put.new.self c.sheet.result.now c.sheet-in-Ok.result.now c.sheet.ensures.sheet c.sheet-in-Ok.ensures.sheet c.in-Ok.ensures.ok
      c.self.inside.rolls c.prepare.new.self c.settle.new.self c.in_ok-aim.ensures.prepared c.settle.ensures;
}

-- the ledger was refused memory, so the record takes some, and no list has moved
pub invariant_of-self-in-Err : goal.invariant_of-self-in-Err
invariant_of-self-in-Err c = record {
  users = subst (λ (s : BalanceSheet). AreUsersOf s c.exchange_back.new.self) c.sheet-in-Err.ensures.sheet c.exchange_back.ensures;
  rolls = subst (λ (s : BalanceSheet). AreRollsOf s c.prepare.new.self) (c.sheet.ensures.sheet ∙ sym c.in-Err.ensures.err)
      (c.in_ok-aim.ensures.kept (takes-memory (takes_no_memory c.args.edit.now) c.in-Err.ensures.in_place)).kept;
}

pub returns-in-Err-clause-still : goal.returns-in-Err-clause-still
returns-in-Err-clause-still c =
    subst (λ (b : RolledSheet). AreSame b.rolls c.prepare.new.self) c.self.view_is
    (c.in_ok-aim.ensures.kept (takes-memory (takes_no_memory c.args.edit.now) c.in-Err.ensures.in_place)).ready.rolls

pub returns-in-Err-clause-numbers : goal.returns-in-Err-clause-numbers
returns-in-Err-clause-numbers c =
    subst (λ (b : RolledSheet). KeepsNumbers b.rolls c.prepare.new.self) c.self.view_is
    (c.in_ok-aim.ensures.kept (takes-memory (takes_no_memory c.args.edit.now) c.in-Err.ensures.in_place)).ready.numbers

pub returns-in-Ok-clause-numbers : goal.returns-in-Ok-clause-numbers
returns-in-Ok-clause-numbers c =
    numbers-here c.args.edit.now c.in_ok-aim.aim c.self.inside.ledger c.put.new.self c.sheet.result.now c.sheet-in-Ok.result.now c.sheet.ensures.sheet c.sheet-in-Ok.ensures.sheet c.in-Ok.ensures.ok
    c.self.inside.rolls c.prepare.new.self c.settle.new.self c.in_ok-aim.ensures.prepared c.settle.ensures c.args.self.now c.self.view_is

pub returns-in-Ok-clause-rolls : goal.returns-in-Ok-clause-rolls
returns-in-Ok-clause-rolls c =
    moved-here c.args.edit.now c.in_ok-aim.aim c.self.inside.ledger c.put.new.self c.sheet.result.now c.sheet-in-Ok.result.now c.sheet.ensures.sheet c.sheet-in-Ok.ensures.sheet c.in-Ok.ensures.ok
    c.self.inside.rolls c.prepare.new.self c.settle.new.self c.in_ok-aim.ensures.prepared c.settle.ensures c.args.self.now c.self.view_is

pub returns-in-Ok-clause-goes_back : goal.returns-in-Ok-clause-goes_back
returns-in-Ok-clause-goes_back c =
    goes-here c.args.edit.now c.in_ok-aim.aim c.self.inside.ledger c.put.new.self c.sheet.result.now c.sheet-in-Ok.result.now c.sheet.ensures.sheet c.sheet-in-Ok.ensures.sheet c.in-Ok.ensures.ok
    c.self.inside.rolls c.prepare.new.self c.settle.new.self c.in_ok-aim.ensures.prepared c.settle.ensures c.args.self.now c.self.view_is c.sheet.ensures.valid

pub returns-in-Ok-clause-returns : goal.returns-in-Ok-clause-returns
returns-in-Ok-clause-returns c =
    returns-here c.args.edit.now c.in_ok-aim.aim c.self.inside.ledger c.put.new.self c.sheet.result.now c.sheet-in-Ok.result.now c.sheet.ensures.sheet c.sheet-in-Ok.ensures.sheet c.in-Ok.ensures.ok
    c.self.inside.rolls c.prepare.new.self c.settle.new.self c.in_ok-aim.ensures.prepared c.settle.ensures c.args.self.now c.self.view_is c.sheet.ensures.valid
