use Rattle.std.proofs.Common.{◌≡◌}
use Rattle.scr_run.specs.BookFile.{sheet_from}
use Rattle.scr_csv.specs.LineOrder.{lines_left}
use Rattle.scr_line_chunks.specs.Passages.{records_behind}
use Rattle.scr_run.proofs.records.fill.Given as goal

-- the records that are left give, from the book so far, what all give from the book at first
abbrev pub invariant-loop-line : goal.invariant-loop-line
invariant-loop-line l = sheet_from (lines_left l.line-iterator) l.book.sheet ≡ sheet_from (records_behind l.passed l.bytes) l.fn.book.sheet
