-- What a book keeps beside its ledger (this project's own).
use Rattle.scr_book.specs.Rolls.{AreRollsOf}
use Rattle.scr_book.specs.Users.{AreUsersOf}
use Rattle.scr_book.specs.declared.book.Book.TheInside.{Inside}

-- Each name is counted as often as it is used, and the member lists are those of the sheet.
pub record IsKeptBook (book : Inside) : Type 0 where
  pub users : AreUsersOf book.ledger book.users
  pub rolls : AreRollsOf book.ledger book.rolls
