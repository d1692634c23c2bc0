-- What the bytes of each file stand for, or the status that they call for (this project's own). A file above its limit
-- is too long, whatever its bytes.
use Rattle.std.specs.Prelude.{◌≡◌, ℕ, List, Result, Ok, Err}
use Rattle.scr_io.specs.declared.reading.ReadFault.{ReadFault}
use Rattle.scr_io.specs.declared.reading.ReadFault.TheVariants as read_faults
use Rattle.scr_io.specs.declared.reading.TheConstants.{MAX_BYTES}
use Rattle.scr_book.specs.RolledSheets.{RolledSheet}
use Rattle.scr_sheet.specs.declared.sheet.BalanceSheet.{BalanceSheet}
use Rattle.scr_sheet.specs.declared.fault.Fault.{Fault}
use Rattle.scr_factors.specs.Reading.{values_in}
use Rattle.scr_factors.specs.Values.{FactorValues}
use Rattle.scr_factors.specs.declared.fault.FactorFault.{FactorFault}
use Rattle.scr_factors.specs.declared.fault.FactorFault.TheVariants as factor_faults
use Rattle.scr_obligations.specs.Moment.{Answer}
use Rattle.scr_obligations.specs.Moment.Answer.{Due, GaveUp}
use Rattle.scr_obligations.specs.Moment.Cause.{Memory, Reading, Writing}
use Rattle.scr_obligations.specs.Plan.{limited, and_then}
use Rattle.scr_run.specs.Statuses.{answer_of}
use Rattle.scr_run.specs.BookFile.{sheet_of}
use Rattle.scr_run.specs.declared.files.Role.{Role}
use Rattle.scr_run.specs.declared.files.Role.TheVariants as roles
use Rattle.scr_run.specs.declared.status.Which.TheVariants as files
use Rattle.scr_run.specs.declared.status.Status.{Status}
use Rattle.scr_run.specs.declared.status.Status.TheVariants as statuses

-- the status that a file calls for which is too long
abbrev pub too_long_of : Role → Status
too_long_of roles.Factors = statuses.FactorsTooLong
too_long_of roles.Book = statuses.TooLong files.Book
too_long_of roles.Edits = statuses.TooLong files.Edits

-- the status of a run whose file was not read
abbrev pub status_unread : Role → ReadFault → Status
status_unread role read_faults.Failed = statuses.Read
status_unread role read_faults.TooLong = too_long_of role
status_unread role read_faults.NoMemory = statuses.NoMemory

-- the bytes of a file that is not too long
abbrev pub bytes_in : Role → List ℕ → Result (List ℕ) Status
bytes_in role bytes = limited MAX_BYTES (too_long_of role) bytes

-- bytes at hand call for the status of this answer, or memory was refused
abbrev pub CallsFor : {V : Type 0} → Result V Status → Answer Status → Type 0
CallsFor due (Due status) = due ≡ Err status
CallsFor due (GaveUp Reading) = ⊥
CallsFor due (GaveUp Writing) = ⊥
CallsFor due (GaveUp Memory) = Unit {0}

-- a book with the balance sheet that bytes at hand stand for, or the status that they call for
abbrev pub Bears : Result BalanceSheet Status → Result RolledSheet Status → Type 0
Bears due (Ok book) = due ≡ Ok book.sheet
Bears due (Err status) = CallsFor due (answer_of status)

-- bytes at hand are within the limit of a file, or call for this status
abbrev pub IsLimited : Role → List ℕ → Result (Unit {0}) Status → Type 0
IsLimited role bytes (Ok unit) = bytes_in role bytes ≡ Ok bytes
IsLimited role bytes (Err status) = (status ≡ too_long_of role) × (bytes_in role bytes ≡ Err status)

-- the values of a factor file, or its first fault
abbrev pub values_or_fault : Result FactorValues FactorFault → Result FactorValues Status
values_or_fault (Ok values) = Ok values
values_or_fault (Err fault) = Err (statuses.Factors fault)

-- the status that is told with a fault: want of memory is no fault of the file
abbrev pub status_of_fault : FactorFault → Status
status_of_fault factor_faults.NoMemory = statuses.NoMemory
status_of_fault fault = statuses.Factors fault

abbrev pub factors_in : List ℕ → Result FactorValues Status
factors_in bytes = and_then (λ read. values_or_fault (values_in read)) (bytes_in roles.Factors bytes)

-- the balance sheet of a book file, or the line and the fault of its first faulty record
abbrev pub sheet_or_fault : Result BalanceSheet (ℕ × Fault) → Result BalanceSheet Status
sheet_or_fault (Ok sheet) = Ok sheet
sheet_or_fault (Err refused) = Err (statuses.Book refused.0 refused.1)

abbrev pub book_in : List ℕ → Result BalanceSheet Status
book_in bytes = and_then (λ read. sheet_or_fault (sheet_of read)) (bytes_in roles.Book bytes)

-- the edits, which have no fault that ends a run
abbrev pub edits_in : List ℕ → Result (List ℕ) Status
edits_in bytes = bytes_in roles.Edits bytes
