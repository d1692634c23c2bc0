-- The summary of a made book and its script (this project's own): how large they are, and the line of the requirement
-- before the script and after it.
use Rattle.std.specs.Prelude.{ℕ, ◌++◌, List, is_ok, length}
use Rattle.std.specs.List.{count_by, fold}
use Rattle.scr_csv.specs.Lines.{records}
use Rattle.scr_made.specs.Summary.{book_line, counts_text, edits_line, last_line}
use Rattle.scr_sheet.specs.declared.sheet.BalanceSheet.{BalanceSheet}
use Rattle.scr_run.specs.Report.{Reply, after, answers}

-- how many records are accepted
abbrev pub accepted : List Reply → ℕ
accepted replies = count_by (λ reply. is_ok reply.1) replies

-- the balance sheet that records leave
abbrev pub left_by : BalanceSheet → List Reply → BalanceSheet
left_by sheet replies = fold (λ last reply. after reply.1 last) sheet replies

-- the summary by the line that a balance sheet has
unfoldable pub summary_text : (BalanceSheet → List ℕ) → ℕ → List ℕ → BalanceSheet → List ℕ
summary_text line number script sheet =
    ((counts_text number ++ book_line (line sheet))
    ++ edits_line (length (records script)) (accepted (answers (records script) sheet)))
    ++ last_line (line (left_by sheet (answers (records script) sheet)))
