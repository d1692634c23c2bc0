-- What the code answers where a balance sheet or a fault is due (this project's own). Want of memory may come in place
-- of either.
use Rattle.std.specs.Prelude.{◌≡◌, ℕ, Result, Ok, Err}
use Rattle.scr_book.specs.RolledSheets.{RolledSheet}
use Rattle.scr_sheet.specs.declared.sheet.BalanceSheet.{BalanceSheet}
use Rattle.scr_sheet.specs.declared.fault.Fault.{Fault}
use Rattle.scr_sheet.specs.declared.fault.Fault.TheVariants as faults
use Rattle.scr_tree.specs.Standing.{HasSheet, IsAsBefore, Standing}
use Rattle.scr_tree.specs.declared.refusal.Refusal.{Refusal}
use Rattle.scr_tree.specs.declared.refusal.Refusal.TheVariants as refusals
use Rattle.scr_run.specs.declared.records.BookFault.{BookFault}
use Rattle.scr_run.specs.declared.records.BookFault.TheVariants as book_faults

-- The book changes to what is due, or the fault that is due is told and the book stays.
abbrev pub Recorded : {A : Type 0} → Result BalanceSheet Fault → BalanceSheet → Result A Fault → BalanceSheet → Type 0
Recorded due old (Ok a) new = due ≡ Ok new
Recorded due old (Err (faults.Syntax k)) new = (due ≡ Err (faults.Syntax k)) × (new ≡ old)
Recorded due old (Err (faults.UnknownName name)) new = (due ≡ Err (faults.UnknownName name)) × (new ≡ old)
Recorded due old (Err (faults.WrongKind name)) new = (due ≡ Err (faults.WrongKind name)) × (new ≡ old)
Recorded due old (Err (faults.InUse name user)) new = (due ≡ Err (faults.InUse name user)) × (new ≡ old)
Recorded due old (Err (faults.Cycle path)) new = (due ≡ Err (faults.Cycle path)) × (new ≡ old)
Recorded due old (Err (faults.Range quantity value limit)) new = (due ≡ Err (faults.Range quantity value limit)) ×
    (new ≡ old)
Recorded due old (Err faults.NoMemory) new = new ≡ old

-- The book of an engine changes to what is due, or the fault that is due is told and the engine stays.
abbrev pub Replied : {A : Type 0} → Result BalanceSheet Fault → Standing → Result A Refusal → Standing → Type 0
Replied due old (Ok a) new = (sheet : BalanceSheet) × (due ≡ Ok sheet) × HasSheet sheet old new
Replied due old (Err (refusals.Fault fault)) new = (due ≡ Err fault) × IsAsBefore old new
Replied due old (Err refusals.NoMemory) new = IsAsBefore old new

-- The book that is due, or the line and the fault.
abbrev pub Read : Result BalanceSheet (ℕ × Fault) → Result RolledSheet BookFault → Type 0
Read due (Ok book) = due ≡ Ok book.sheet
Read due (Err (book_faults.Record line fault)) = due ≡ Err (line, fault)
Read due (Err book_faults.NoMemory) = Unit {0}

-- The book changes to what is due, or the line and the fault are told.
abbrev pub Filled : {A : Type 0} → Result BalanceSheet (ℕ × Fault) → Result A BookFault → BalanceSheet → Type 0
Filled due (Ok a) new = due ≡ Ok new
Filled due (Err (book_faults.Record line fault)) new = due ≡ Err (line, fault)
Filled due (Err book_faults.NoMemory) new = Unit {0}
