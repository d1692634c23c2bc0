-- What a call owes that reads one file of a plan (this project's own).
use Rattle.std.specs.Prelude.{◌≡◌, ℕ, List, Result, Ok, Err}
use Rattle.scr_obligations.specs.Moment.{Shelved, Answer}
use Rattle.scr_obligations.specs.Moment.Cause.{Reading, Writing, Memory}
use Rattle.scr_obligations.specs.Moment.Answer.{Due, GaveUp}
use Rattle.scr_obligations.specs.Owes.{Allows, FailedAt}

-- the file was read, its bytes stand for this value, and no count rose
pub record Passed {S V : Type 0} (name : List ℕ) (reading : List ℕ → Result V S) (before now : Shelved)
    (value : V) : Type 0 where
  pub unmoved : now ≡ before
  pub read : Allows (before.content name) (λ bytes. reading bytes ≡ Ok value)

-- The run ends at this file: its bytes call for the status, it could not be read, or memory was refused. A count rose
-- only where it could not be read.
abbrev pub StopsBy : {S V : Type 0} → List ℕ → (List ℕ → Result V S) → Shelved → Shelved → Answer S → Type 0
StopsBy name reading before now (Due status) = (now ≡ before) × Allows (before.content name)
    (λ bytes. reading bytes ≡ Err status)
StopsBy name reading before now (GaveUp Reading) = FailedAt name before now
StopsBy name reading before now (GaveUp Writing) = ⊥
StopsBy name reading before now (GaveUp Memory) = now ≡ before

pub record Stopped {S V : Type 0} (name : List ℕ) (reading : List ℕ → Result V S) (before now : Shelved)
    (answer : Answer S) : Type 0 where
  pub cause : StopsBy name reading before now answer
