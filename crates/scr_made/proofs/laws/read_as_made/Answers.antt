-- Each record has its form, and is read back.
use Rattle.scr_made.specs.Made.{made_book, made_script, book_text, script_text, book}
use Rattle.scr_made.proofs.FormedRecords.{book_formed, script_formed}
use Rattle.scr_made.proofs.ReadBack.{records_written, edits_read_back}
use Rattle.scr_made.proofs.laws.read_as_made.Goals as goal

pub returns-clause-book_formed : goal.returns-clause-book_formed
unfolding made_book
returns-clause-book_formed c number = book_formed number

pub returns-clause-script_formed : goal.returns-clause-script_formed
unfolding made_script
returns-clause-script_formed c number = script_formed (book number).1

pub returns-clause-book_lines : goal.returns-clause-book_lines
unfolding book_text
returns-clause-book_lines c number = records_written (made_book number) (returns-clause-book_formed c number)

pub returns-clause-script_lines : goal.returns-clause-script_lines
unfolding script_text
returns-clause-script_lines c number = records_written (made_script number) (returns-clause-script_formed c number)

pub returns-clause-book_read : goal.returns-clause-book_read
unfolding book_text
returns-clause-book_read c number = edits_read_back (made_book number) (returns-clause-book_formed c number)

pub returns-clause-script_read : goal.returns-clause-script_read
unfolding script_text
returns-clause-script_read c number = edits_read_back (made_script number) (returns-clause-script_formed c number)
