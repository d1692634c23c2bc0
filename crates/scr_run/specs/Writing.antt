-- How far a text was written (this project's own).
use Rattle.std.specs.Prelude.{◌≡◌, ◌++◌, ℕ, List, Result, Ok, Err}
use Rattle.std.specs.Io.KnownBytes.{Appends}
use Rattle.scr_io.specs.Cause.{Rose}
use Rattle.scr_io.specs.Front.{AppendsFront}
use Rattle.scr_obligations.specs.Moment.{Sunk}
use Rattle.scr_run.specs.declared.report.WriteFault.{WriteFault}
use Rattle.scr_run.specs.declared.report.WriteFault.TheVariants as faults

-- The whole text was written; or a front of it, where a write failed or memory was refused. The sink's faults rose only
-- where a write failed.
abbrev pub WritesText : {A : Type 0} → List ℕ → Sunk → Sunk → Result A WriteFault → Type 0
WritesText text old new (Ok a) = Appends old.written new.written text × (new.faults ≡ old.faults)
WritesText text old new (Err faults.Failed) = AppendsFront old.written new.written text × Rose old.faults new.faults
WritesText text old new (Err faults.NoMemory) = AppendsFront old.written new.written text × (new.faults ≡ old.faults)

-- What was written so far of a text, and what is still due of it.
abbrev pub Leaves : Sunk → Sunk → List ℕ → List ℕ → Type 0
Leaves old now whole rest = (done : List ℕ) × (whole ≡ done ++ rest) × Appends old.written now.written done

-- The line of a status was written whole; or a front of it, where a write failed; or nothing of it, where memory was refused.
-- The sink's faults rose only where a write failed. `seen` is what a sink tells.
abbrev pub TellsLine : {E : Type 0} → (E → Sunk) → List ℕ → E → E → Result (Unit {0}) WriteFault → Type 0
TellsLine seen line old new (Ok done) = Appends (seen old).written (seen new).written line
    × ((seen new).faults ≡ (seen old).faults)
TellsLine seen line old new (Err faults.Failed) = AppendsFront (seen old).written (seen new).written line
    × Rose (seen old).faults (seen new).faults
TellsLine seen line old new (Err faults.NoMemory) = new ≡ old

-- the line was told as far as the sink took it, and not begun where memory was refused
abbrev pub IsTold : {E : Type 0} → (E → Sunk) → List ℕ → E → E → Type 0
IsTold seen line old new = (told : Result (Unit {0}) WriteFault) × TellsLine seen line old new told
