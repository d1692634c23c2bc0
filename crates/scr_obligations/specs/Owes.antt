-- What a run owes for its plan, from what the shelf and the sink told before and what they tell now (this project's
-- own).
use Rattle.std.specs.Prelude.{◌≡◌, ◌⊎◌, ℕ, List}
use Rattle.std.specs.Io.KnownBytes.{Appends}
use Rattle.scr_io.specs.Cause.{Rose}
use Rattle.scr_io.specs.Content.{Content, Untold, Absent, Holds, RisesOnlyIfAbsent}
use Rattle.scr_io.specs.Front.{AppendsFront}
use Rattle.scr_obligations.specs.Moment.{Shelved, Sunk, Cause, Answer}
use Rattle.scr_obligations.specs.Moment.Cause.{Reading, Writing, Memory}
use Rattle.scr_obligations.specs.Moment.Answer.{Due, GaveUp}
use Rattle.scr_obligations.specs.Plan.{Plan}
use Rattle.scr_obligations.specs.Plan.Plan.{Ask, End, Tell}

-- P holds of bytes that may stand under a name: of those that are told, and where none are told, of some
abbrev pub Allows : Content → (List ℕ → Type 0) → Type 0
Allows Untold P = (bytes : List ℕ) × P bytes
Allows Absent P = ⊥
Allows (Holds bytes) P = P bytes

-- an open or a read of this name failed, and no other name that is absent was opened
pub record FailedAt (name : List ℕ) (before now : Shelved) : Type 0 where
  pub content : now.content ≡ before.content
  pub rose : Rose before.faults now.faults
  pub strays : RisesOnlyIfAbsent (before.content name) before.strays now.strays

-- The run gives up at this file: it could not be read, or memory was refused and no fault rose. Nothing was written.
abbrev pub GivesUpAt : {S : Type 0} → List ℕ → Shelved → Shelved → Sunk → Sunk → Answer S → Type 0
GivesUpAt name before now old new (Due status) = ⊥
GivesUpAt name before now old new (GaveUp Reading) = FailedAt name before now × (new ≡ old)
GivesUpAt name before now old new (GaveUp Writing) = ⊥
GivesUpAt name before now old new (GaveUp Memory) = (now ≡ before) × (new ≡ old)

-- The run ends with the status that is due, or memory was refused. No name was opened since, no fault rose, and nothing
-- was written.
abbrev pub EndsWith : {S : Type 0} → S → Shelved → Shelved → Sunk → Sunk → Answer S → Type 0
EndsWith due before now old new (Due status) = (status ≡ due) × (now ≡ before) × (new ≡ old)
EndsWith due before now old new (GaveUp Reading) = ⊥
EndsWith due before now old new (GaveUp Writing) = ⊥
EndsWith due before now old new (GaveUp Memory) = (now ≡ before) × (new ≡ old)

-- The whole text was written; or a front of it, where a write failed or memory was refused. No name was opened since.
abbrev pub Writes : {S : Type 0} → S → List ℕ → Shelved → Shelved → Sunk → Sunk → Answer S → Type 0
Writes due text before now old new (Due status) =
    (status ≡ due) × (now ≡ before) × Appends old.written new.written text × (new.faults ≡ old.faults)
Writes due text before now old new (GaveUp Reading) = ⊥
Writes due text before now old new (GaveUp Writing) =
    (now ≡ before) × AppendsFront old.written new.written text × Rose old.faults new.faults
Writes due text before now old new (GaveUp Memory) =
    (now ≡ before) × AppendsFront old.written new.written text × (new.faults ≡ old.faults)

-- At each file the run gives up, or the bytes that the file may have lead to what is owed for the rest.
unfoldable pub Owes : {S : Type 0} → Plan S → Shelved → Shelved → Sunk → Sunk → Answer S → Type 0
Owes (Ask name rest) before now old new answer =
    GivesUpAt name before now old new answer ⊎ Allows (before.content name)
    (λ bytes. Owes (rest bytes) before now old new answer)
Owes (End due) before now old new answer = EndsWith due before now old new answer
Owes (Tell due text) before now old new answer = Writes due text before now old new answer
