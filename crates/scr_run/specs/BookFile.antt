-- The balance sheet that a book file gives (this project's own): its records are applied in order to the opening
-- one, and the first that is refused is told with the number of its line.
use Rattle.std.specs.Prelude.{ℕ, List, [], ◌∷◌, Option, Some, None, Result, Ok, Err}
use Rattle.scr_sheet.specs.BalanceSheet.{opening}
use Rattle.scr_sheet.specs.declared.sheet.BalanceSheet.{BalanceSheet}
use Rattle.scr_sheet.specs.Records.{applied}
use Rattle.scr_sheet.specs.Faults.{fault_of}
use Rattle.scr_sheet.specs.declared.edit.Edit.{Edit}
use Rattle.scr_sheet.specs.declared.fault.Fault.{Fault}
use Rattle.scr_sheet.specs.declared.fault.Fault.TheVariants as faults
use Rattle.scr_csv.specs.Lines.{records}
use Rattle.scr_csv.specs.Records.{edit_of_line}
use Rattle.scr_csv.specs.declared.fault.LineFault.{LineFault}
use Rattle.scr_csv.specs.declared.fault.LineFault.TheVariants as line_faults

-- the record applied where it has no fault
abbrev pub unless_faulty : Option Fault → BalanceSheet → Result BalanceSheet Fault
unless_faulty None sheet = Ok sheet
unless_faulty (Some fault) sheet = Err fault

-- a line that is no record has the fault Syntax
abbrev pub syntax_fault : LineFault → Fault
syntax_fault (line_faults.Syntax field) = faults.Syntax field
syntax_fault line_faults.NoMemory = faults.NoMemory

abbrev pub read_edit : Result Edit LineFault → BalanceSheet → Result BalanceSheet Fault
read_edit (Ok edit) sheet = unless_faulty (fault_of edit sheet) (applied edit sheet)
read_edit (Err fault) sheet = Err (syntax_fault fault)

-- what the record of a line makes of the balance sheet, or its fault
unfoldable pub recorded : List ℕ → BalanceSheet → Result BalanceSheet Fault
recorded text sheet = read_edit (edit_of_line text) sheet

-- a fault with the number of its line, or what the lines after it give
abbrev pub and_then_lines : ℕ → (BalanceSheet → Result BalanceSheet (ℕ × Fault)) → Result BalanceSheet Fault
    → Result BalanceSheet (ℕ × Fault)
and_then_lines number after (Ok sheet) = after sheet
and_then_lines number after (Err fault) = Err (number, fault)

abbrev pub sheet_from : List (ℕ × List ℕ) → BalanceSheet → Result BalanceSheet (ℕ × Fault)
sheet_from [] sheet = Ok sheet
sheet_from (line ∷ lines) sheet = and_then_lines line.0 (sheet_from lines) (recorded line.1 sheet)

-- the balance sheet of a book file, or the line and the fault of its first faulty record
unfoldable pub sheet_of : List ℕ → Result BalanceSheet (ℕ × Fault)
sheet_of bytes = sheet_from (records bytes) opening
