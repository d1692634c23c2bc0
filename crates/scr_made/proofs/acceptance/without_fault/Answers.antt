-- The runs of records of the book and of its script.
use Rattle.std.proofs.Common.{refl}
use Rattle.scr_sheet.specs.BalanceSheet.{opening}
use Rattle.scr_made.specs.Made.{book, made_book, made_script}
use Rattle.scr_made.proofs.Sections.{book_leads, script_leads}
use Rattle.scr_made.proofs.acceptance.without_fault.Goals as goal

pub returns-clause-book : goal.returns-clause-book
unfolding made_book
returns-clause-book c number = (book_leads number opening refl).0

pub returns-clause-script : goal.returns-clause-script
unfolding made_book made_script
returns-clause-script c number = (script_leads (book number).1 _ (book_leads number opening refl).1).0
