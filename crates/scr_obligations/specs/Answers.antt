-- How a run may answer, whatever its plan (this project's own).
use Rattle.std.specs.Prelude.{◌≡◌, ◌⊎◌, ◌≤◌, ℕ, List}
use Rattle.std.specs.Io.KnownBytes.{Appends}
use Rattle.scr_io.specs.Cause.{Rose}
use Rattle.scr_obligations.specs.Moment.{Shelved, Sunk, Answer}
use Rattle.scr_obligations.specs.Moment.Cause.{Reading, Writing, Memory}
use Rattle.scr_obligations.specs.Moment.Answer.{Due, GaveUp}

-- Each answer has its cause: a failed read or write comes only where its count rose in this run, and no other count
-- moved; with any other answer no count moved.
abbrev pub HasItsCause : {S : Type 0} → Shelved → Shelved → Sunk → Sunk → Answer S → Type 0
HasItsCause before now old new (Due status) = (now ≡ before) × (new.faults ≡ old.faults)
HasItsCause before now old new (GaveUp Reading) = Rose before.faults now.faults × (new ≡ old)
HasItsCause before now old new (GaveUp Writing) = (now ≡ before) × Rose old.faults new.faults
HasItsCause before now old new (GaveUp Memory) = (now ≡ before) × (new.faults ≡ old.faults)

-- the run gave up before it wrote: a fault of the shelf rose, or memory was refused
abbrev pub GaveUpUnwritten : {S : Type 0} → Shelved → Shelved → Answer S → Type 0
GaveUpUnwritten before now (Due status) = ⊥
GaveUpUnwritten before now (GaveUp Reading) = Rose before.faults now.faults
GaveUpUnwritten before now (GaveUp Writing) = ⊥
GaveUpUnwritten before now (GaveUp Memory) = Unit {0}

-- the status that is due, or the run gave up before it wrote
abbrev pub IsDueUnwritten : {S : Type 0} → S → Shelved → Shelved → Answer S → Type 0
IsDueUnwritten due before now answer = (answer ≡ Due due) ⊎ GaveUpUnwritten before now answer

-- the status that is due and the whole text; or a fault rose, or memory was refused
abbrev pub IsWhole : {S : Type 0} → S → List ℕ → Shelved → Shelved → Sunk → Sunk → Answer S → Type 0
IsWhole due text before now old new (Due status) = (status ≡ due) × Appends old.written new.written text
IsWhole due text before now old new (GaveUp Reading) = Rose before.faults now.faults
IsWhole due text before now old new (GaveUp Writing) = Rose old.faults new.faults
IsWhole due text before now old new (GaveUp Memory) = Unit {0}
