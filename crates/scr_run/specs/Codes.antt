-- The exit codes of the program (this project's own).
use Rattle.std.specs.Prelude.{ℕ}
use Rattle.scr_run.specs.declared.status.Status.{Status}
use Rattle.scr_run.specs.declared.status.Status.TheVariants.{Done, Refused, Usage, Factors, FactorsTooLong, Book, TooLong, Read, Write, NoMemory}

abbrev pub code_of : Status → ℕ
code_of Done = 0
code_of Refused = 1
code_of Usage = 2
code_of (Factors fault) = 3
code_of FactorsTooLong = 3
code_of (Book line fault) = 4
code_of (TooLong which) = 4
code_of Read = 5
code_of Write = 6
code_of NoMemory = 7
