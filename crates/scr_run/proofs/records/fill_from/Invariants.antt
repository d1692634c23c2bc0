-- The passages that are left give, from the book so far, what the file gives from the book at first.
use Rattle.std.proofs.Common.{◌≡◌, ◌+◌, ◌≤◌, ◌++◌, length}
use Rattle.std.specs.Vec.Iter.{into_iter_items, into_iter_len}
use Rattle.scr_csv.specs.Lines.{records}
use Rattle.scr_line_chunks.specs.Files.{bytes_of}
use Rattle.scr_line_chunks.specs.Passages.{AreWhole, joined, records_behind}
use Rattle.scr_run.specs.BookFile.{sheet_from}
use Rattle.scr_run.proofs.records.fill_from.Given as goal

abbrev pub invariant-loop-passage : goal.invariant-loop-passage
invariant-loop-passage l =
    let left = joined (into_iter_items l.passage-iterator) ++ l.last.items in
    record {
      sheet : sheet_from (records_behind l.passed left) l.book.sheet ≡ sheet_from (records (bytes_of l.fn.file)) l.fn.book.sheet;
      whole : AreWhole (into_iter_items l.passage-iterator);
      short : l.passed + length left ≤ 67108864;
      counted : into_iter_len l.passage-iterator ≡ length (into_iter_items l.passage-iterator);
    }
