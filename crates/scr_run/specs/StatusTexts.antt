-- How a status is told on standard error (this project's own).
use Rattle.std.specs.Prelude.{ℕ, ◌++◌, List, [], Option, Some, None, if◌then◌else◌, codes, decimal, nat_lt}
use Rattle.scr_sheet.specs.declared.fault.Fault.{Fault}
use Rattle.scr_factors.specs.Keys.{key_name, key_table}
use Rattle.scr_factors.specs.declared.key.Key.{Key}
use Rattle.scr_factors.specs.declared.fault.FactorFault.{FactorFault}
use Rattle.scr_factors.specs.declared.fault.FactorFault.TheVariants as factor_faults
use Rattle.scr_run.specs.Codes.{code_of}
use Rattle.scr_run.specs.FaultTexts.{fault_number, fault_text}
use Rattle.scr_run.specs.declared.status.Which.{Which}
use Rattle.scr_run.specs.declared.status.Which.TheVariants as files
use Rattle.scr_run.specs.declared.status.Status.{Status}
use Rattle.scr_run.specs.declared.status.Status.TheVariants as statuses

-- a key behind the table that it stands in
abbrev pub in_table : Option (List ℕ) → List ℕ → List ℕ
in_table None name = name
in_table (Some table) name = (table ++ codes ".") ++ name

unfoldable pub key_text : Key → List ℕ
key_text key = in_table (key_table key) (key_name key)

-- a label and a key
unfoldable pub labelled_key : List ℕ → Key → List ℕ
labelled_key label key = label ++ key_text key

-- a label and the two segments whose correlations differ
unfoldable pub labelled_pair : List ℕ → ℕ → ℕ → List ℕ
labelled_pair label i j = ((label ++ decimal i) ++ codes ",") ++ decimal j

abbrev pub factor_fault_text : FactorFault → List ℕ
factor_fault_text factor_faults.NotToml = codes "factors: not TOML"
factor_fault_text (factor_faults.Missing key) = labelled_key (codes "factors: missing ") key
factor_fault_text (factor_faults.BadValue key) = labelled_key (codes "factors: bad value ") key
factor_fault_text (factor_faults.NotSymmetric i j) = labelled_pair (codes "factors: not symmetric at ") i j
factor_fault_text factor_faults.NoMemory = codes "out of memory"

-- a label, the number of the line, and the number and the text of its fault
unfoldable pub labelled_record : List ℕ → ℕ → Fault → List ℕ
labelled_record label line fault = ((((label ++ decimal line) ++ codes ": ") ++ decimal
    (fault_number fault)) ++ codes " ") ++ fault_text fault

abbrev pub too_long_text : Which → List ℕ
too_long_text files.Book = codes "book: too long"
too_long_text files.Edits = codes "edits: too long"

-- nothing is told of a run that ended with its whole report
abbrev pub status_text : Status → List ℕ
status_text statuses.Done = []
status_text statuses.Refused = []
status_text statuses.Usage = codes "usage: scr --factors F --book B --edits E --workers N"
status_text (statuses.Factors fault) = factor_fault_text fault
status_text statuses.FactorsTooLong = codes "factors: too long"
status_text (statuses.Book line fault) = labelled_record (codes "book line ") line fault
status_text (statuses.TooLong which) = too_long_text which
status_text statuses.Read = codes "read failed"
status_text statuses.Write = codes "write failed"
status_text statuses.NoMemory = codes "out of memory"

-- what is written on standard error: the line of a status, with its end, for each exit code from 2 on
abbrev pub told_line : Status → List ℕ
told_line status = if nat_lt (code_of status) 2 then [] else status_text status ++ codes "\n"
