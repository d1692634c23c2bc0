-- So many lines, each of a length.
use Rattle.std.proofs.Common.{arith}
use Rattle.scr_made.specs.Made.{book, book_text, made_book, made_script, script_text}
use Rattle.scr_made.proofs.Lengths.{text-le}
use Rattle.scr_made.proofs.Sizes.{book_brief, script_brief}
use Rattle.scr_made.proofs.acceptance.within_a_file.Goals as goal

pub returns-clause-book : goal.returns-clause-book
unfolding made_book book_text
returns-clause-book c number =
    let brief = book_brief number in
    let count = brief.count in
    let text = text-le (made_book number) (c.read_as_made.ensures.book_formed number) brief.each in
    omega (arith, count, text)

pub returns-clause-script : goal.returns-clause-script
unfolding made_script script_text
returns-clause-script c number =
    let brief = script_brief (book number).1 in
    let count = brief.count in
    let text = text-le (made_script number) (c.read_as_made.ensures.script_formed number) brief.each in
    omega (arith, count, text)
