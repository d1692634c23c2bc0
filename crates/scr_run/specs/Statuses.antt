-- What each status says of how a run ended (this project's own).
use Rattle.std.specs.Prelude.{◌≡◌, ◌⊎◌}
use Rattle.scr_obligations.specs.Moment.{Answer}
use Rattle.scr_obligations.specs.Moment.Cause.{Reading, Writing, Memory}
use Rattle.scr_obligations.specs.Moment.Answer.{Due, GaveUp}
use Rattle.scr_factors.specs.declared.fault.FactorFault.TheVariants as factor_faults
use Rattle.scr_sheet.specs.declared.fault.Fault.TheVariants as faults
use Rattle.scr_run.specs.declared.status.Status.{Status}
use Rattle.scr_run.specs.declared.status.Status.TheVariants as statuses

-- with these three statuses a run gives up what is due
abbrev pub answer_of : Status → Answer Status
answer_of statuses.Read = GaveUp Reading
answer_of statuses.Write = GaveUp Writing
answer_of statuses.NoMemory = GaveUp Memory
answer_of status = Due status

-- a status with which the whole report was written
abbrev pub IsEnded : Status → Type 0
IsEnded status = (status ≡ statuses.Done) ⊎ (status ≡ statuses.Refused)

-- with these statuses the sink is as it was
abbrev pub IsQuiet : Status → Type 0
IsQuiet statuses.Done = ⊥
IsQuiet statuses.Refused = ⊥
IsQuiet statuses.Write = ⊥
IsQuiet statuses.NoMemory = ⊥
IsQuiet status = Unit {0}

-- a status that a file may call for, or the want of it: nothing is written, and want of memory is no fault of a file
abbrev pub IsEarly : Status → Type 0
IsEarly statuses.Done = ⊥
IsEarly statuses.Refused = ⊥
IsEarly statuses.Write = ⊥
IsEarly statuses.Usage = ⊥
IsEarly (statuses.Factors factor_faults.NoMemory) = ⊥
IsEarly (statuses.Book line faults.NoMemory) = ⊥
IsEarly status = Unit {0}
