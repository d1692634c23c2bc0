-- Every balance sheet from which a block is printed is valid.
use Rattle.std.proofs.Common.{◌≡◌, ℕ, List, [], ◌∷◌, ◌++◌, flat_map, Option, Some, None, Result, Ok, Err, IfOk, refl, subst}
use Rattle.std.specs.List.{AllByRecursion}
use Rattle.scr_cells.specs.Certified.{Certified}
use Rattle.scr_cells.proofs.Bounded.{certified}
use Rattle.scr_csv.specs.Lines.{records}
use Rattle.scr_csv.specs.Records.{edit_of_line}
use Rattle.scr_csv.specs.declared.fault.LineFault.{LineFault}
use Rattle.scr_factors.specs.Values.{FactorValues, IsInForm}
use Rattle.scr_sheet.proofs.Preserved.{Valid-applied, Valid-opening}
use Rattle.scr_sheet.specs.BalanceSheet.{opening}
use Rattle.scr_sheet.specs.Faults.{fault_of}
use Rattle.scr_sheet.specs.Forms.{Formed}
use Rattle.scr_sheet.specs.Records.{applied}
use Rattle.scr_sheet.specs.Validity.{Valid}
use Rattle.scr_sheet.specs.declared.edit.Edit.{Edit}
use Rattle.scr_sheet.specs.declared.fault.Fault.{Fault}
use Rattle.scr_sheet.specs.declared.sheet.BalanceSheet.{BalanceSheet}
use Rattle.scr_run.proofs.Formed.{line_formed}
use Rattle.scr_run.specs.BookFile.{and_then_lines, read_edit, recorded, sheet_from, sheet_of, unless_faulty}
use Rattle.scr_run.specs.Report.{Reply, after, answers, if_accepted, printed}

-- a record that is accepted leaves a valid sheet
edit_valid : (sheet : BalanceSheet) → Valid sheet → (edit : Edit) → Formed edit → (found : Option Fault)
    → fault_of edit sheet ≡ found
    → IfOk (unless_faulty found (applied edit sheet)) Valid
edit_valid sheet valid edit formed None e = Valid-applied edit sheet formed valid e
edit_valid sheet valid edit formed (Some fault) e = tt

read_valid : (sheet : BalanceSheet) → Valid sheet → (read : Result Edit LineFault) → IfOk read Formed
    → IfOk (read_edit read sheet) Valid
read_valid sheet valid (Ok edit) formed = edit_valid sheet valid edit formed (fault_of edit sheet) refl
read_valid sheet valid (Err fault) formed = tt

recorded_valid : (text : List ℕ) (sheet : BalanceSheet) → Valid sheet → IfOk (recorded text sheet) Valid
unfolding recorded
recorded_valid text sheet valid = read_valid sheet valid (edit_of_line text) (line_formed text)

-- ---- a book

lines_valid : (number : ℕ) (later : BalanceSheet → Result BalanceSheet (ℕ × Fault))
    → ((sheet : BalanceSheet) → Valid sheet → IfOk (later sheet) Valid)
    → (due : Result BalanceSheet Fault) → IfOk due Valid → IfOk (and_then_lines number later due) Valid
lines_valid number later h (Ok sheet) valid = h sheet valid
lines_valid number later h (Err fault) valid = tt

from_valid : (lines : List (ℕ × List ℕ)) (sheet : BalanceSheet) → Valid sheet → IfOk (sheet_from lines sheet) Valid
from_valid [] sheet valid = valid
from_valid (line ∷ lines) sheet valid =
    lines_valid line.0 (sheet_from lines) (from_valid lines) (recorded line.1 sheet) (recorded_valid line.1 sheet valid)

book_valid : (bytes : List ℕ) → IfOk (sheet_of bytes) Valid
unfolding sheet_of
book_valid bytes = from_valid (records bytes) opening Valid-opening

pub sheet_valid : (bytes : List ℕ) (sheet : BalanceSheet) → sheet_of bytes ≡ Ok sheet → Valid sheet
sheet_valid bytes sheet e = subst (λ r. IfOk r Valid) e (book_valid bytes)

-- ---- the edits

after_valid : (due : Result BalanceSheet Fault) (sheet : BalanceSheet) → Valid sheet → IfOk due Valid
    → Valid (after due sheet)
after_valid (Ok new) sheet valid h = h
after_valid (Err fault) sheet valid h = valid

one_more : (due : Result BalanceSheet Fault) (later : List BalanceSheet) → IfOk due Valid → AllByRecursion Valid later
    → AllByRecursion Valid (if_accepted due ++ later)
one_more (Ok new) later valid all = (valid, all)
one_more (Err fault) later valid all = all

accepted_valid : (lines : List (ℕ × List ℕ)) (sheet : BalanceSheet) → Valid sheet
    → AllByRecursion Valid (flat_map (λ (reply : Reply). if_accepted reply.1) (answers lines sheet))
accepted_valid [] sheet valid = tt
accepted_valid (line ∷ lines) sheet valid =
    let due = recorded_valid line.1 sheet valid in
    one_more (recorded line.1 sheet) (flat_map (λ (reply : Reply). if_accepted reply.1)
    (answers lines (after (recorded line.1 sheet) sheet))) due
    (accepted_valid lines (after (recorded line.1 sheet) sheet) (after_valid (recorded line.1 sheet) sheet valid due))

pub printed_valid : (bytes : List ℕ) (lines : List (ℕ × List ℕ)) (sheet : BalanceSheet) → sheet_of bytes ≡ Ok sheet
    → AllByRecursion Valid (printed sheet (answers lines sheet))
printed_valid bytes lines sheet e = let valid = sheet_valid bytes sheet e in (valid, accepted_valid lines sheet valid)

all_certified : (values : FactorValues) → IsInForm values → (sheets : List BalanceSheet) → AllByRecursion Valid sheets
    → AllByRecursion (Certified values) sheets
all_certified values form [] all = tt
all_certified values form (sheet ∷ sheets) all =
    (certified values form sheet all.0, all_certified values form sheets all.1)

pub printed_certified : (values : FactorValues) → IsInForm values → (bytes : List ℕ) (lines : List (ℕ × List ℕ))
    (sheet : BalanceSheet) → sheet_of bytes ≡ Ok sheet
    → AllByRecursion (Certified values) (printed sheet (answers lines sheet))
printed_certified values form bytes lines sheet e = all_certified values form (printed sheet (answers lines sheet))
    (printed_valid bytes lines sheet e)
