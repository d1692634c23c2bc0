use Rattle.std.proofs.Common.{◌∙◌, Err, ap, refl}
use Rattle.scr_run.specs.declared.records.BookFault.TheVariants as book_faults
use Rattle.scr_run.proofs.FileSteps.{book_passed, record_early}
use Rattle.scr_run.proofs.files.file_book.Goals as goal

pub returns-in-Err-Record-clause-early : goal.returns-in-Err-Record-clause-early
returns-in-Err-Record-clause-early g c =
    record_early c.in-Err-Record.line c.in-Err-Record.fault
    (λ same. c.in-Err-Record.ensures.never_memory c.in-Err-Record.line
    (ap Err (c.in-Err-Record.field-0-is ∙ ap (λ f. book_faults.Record c.in-Err-Record.line f) same)))

pub returns-in-Ok-read_file-clause-passed : goal.returns-in-Ok-read_file-clause-passed
returns-in-Ok-read_file-clause-passed g c =
    book_passed _ _ _ _ _ refl _ c.in-Ok.ensures.passed c.in-Ok-read_file.ensures.answer
