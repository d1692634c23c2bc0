-- The report (this project's own): a line `# 0 book` and the block of the book; then for each record of the edits a line
-- that says whether it was accepted, and the block that an accepted one leaves.
use Rattle.std.specs.Prelude.{ℕ, ◌++◌, Bool, List, [], ◌∷◌, Result, Ok, Err, is_err, codes, decimal, flat_map}
use Rattle.std.specs.List.{list_any}
use Rattle.scr_sheet.specs.declared.sheet.BalanceSheet.{BalanceSheet}
use Rattle.scr_sheet.specs.declared.fault.Fault.{Fault}
use Rattle.scr_run.specs.BookFile.{recorded}
use Rattle.scr_run.specs.FaultTexts.{fault_number, fault_text}
use Rattle.scr_csv.specs.Lines.{records}

-- ---- what the edits come to

-- how a record of the edits is answered: with the number of its line, and the balance sheet that it leaves or its fault
abbrev pub Reply : Type 0
Reply = ℕ × Result BalanceSheet Fault

-- a refused record leaves the balance sheet as it was
abbrev pub after : Result BalanceSheet Fault → BalanceSheet → BalanceSheet
after (Ok new) old = new
after (Err fault) old = old

-- the answers to the records of the edits, each on the balance sheet that those before it leave
abbrev pub answers : List (ℕ × List ℕ) → BalanceSheet → List Reply
answers [] sheet = []
answers (line ∷ lines) sheet = (line.0, recorded line.1 sheet) ∷ answers lines (after (recorded line.1 sheet) sheet)

-- some record is refused
abbrev pub any_refused : List Reply → Bool
any_refused replies = list_any (λ reply. is_err reply.1) replies

abbrev pub if_accepted : Result BalanceSheet Fault → List BalanceSheet
if_accepted (Ok sheet) = sheet ∷ []
if_accepted (Err fault) = []

-- the balance sheets whose blocks the report has: that of the book, and what each accepted record leaves
abbrev pub printed : BalanceSheet → List Reply → List BalanceSheet
printed sheet replies = sheet ∷ flat_map (λ reply. if_accepted reply.1) replies

-- ---- the text, by what a block prints

-- the first lines, for the book as its file gives it
unfoldable pub opening_text : (BalanceSheet → List ℕ) → BalanceSheet → List ℕ
opening_text block sheet = codes "# 0 book\n" ++ block sheet

-- `# `, the number of the record's line and a blank
unfoldable pub reply_start : ℕ → List ℕ
reply_start number = (codes "# " ++ decimal number) ++ codes " "

-- the block of the balance sheet that an accepted record leaves
unfoldable pub accepted_text : (BalanceSheet → List ℕ) → ℕ → BalanceSheet → List ℕ
accepted_text block number sheet = (reply_start number ++ codes "ok\n") ++ block sheet

-- the number and the text of the fault of a refused record
unfoldable pub refused_text : ℕ → Fault → List ℕ
refused_text number fault = ((((reply_start number ++ codes "refused ") ++ decimal
    (fault_number fault)) ++ codes " ") ++ fault_text fault) ++ codes "\n"

-- the reply to a record of the edits
abbrev pub reply_text : (BalanceSheet → List ℕ) → ℕ → Result BalanceSheet Fault → List ℕ
reply_text block number (Ok sheet) = accepted_text block number sheet
reply_text block number (Err fault) = refused_text number fault

-- the replies one after another
abbrev pub replies_text : (BalanceSheet → List ℕ) → List Reply → List ℕ
replies_text block replies = flat_map (λ reply. reply_text block reply.0 reply.1) replies

-- the report on a book and the bytes of its edits
abbrev pub report_text : (BalanceSheet → List ℕ) → List ℕ → BalanceSheet → List ℕ
report_text block edits sheet = opening_text block sheet ++ replies_text block (answers (records edits) sheet)
