-- Where a plan leads by the contents that a shelf tells (this project's own).
use Rattle.std.specs.Prelude.{◌≡◌, ℕ, List}
use Rattle.scr_io.specs.Content.{Content, Untold, Absent, Holds}
use Rattle.scr_obligations.specs.Owes.{Allows}
use Rattle.scr_obligations.specs.Plan.{Plan}
use Rattle.scr_obligations.specs.Plan.Plan.{Ask, End, Tell}

pub data Outcome (S : Type 0) : Type 0 where
  -- the shelf does not tell a file that the plan reads
  Hidden : Outcome S
  -- the shelf lacks a file that the plan reads
  Lacking : Outcome S
  -- the run ends with this status, and writes nothing
  Ends : S → Outcome S
  -- this text is written, and the run ends with this status
  Tells : S → (text : List ℕ) → Outcome S

-- what stands under a name leads to this outcome
abbrev pub outcome_at : {S : Type 0} → (List ℕ → Outcome S) → Content → Outcome S
outcome_at rest Untold = Outcome.Hidden
outcome_at rest Absent = Outcome.Lacking
outcome_at rest (Holds bytes) = rest bytes

abbrev pub outcome : {S : Type 0} → Plan S → (List ℕ → Content) → Outcome S
outcome (Ask name rest) content = outcome_at (λ bytes. outcome (rest bytes) content) (content name)
outcome (End due) content = Outcome.Ends due
outcome (Tell due text) content = Outcome.Tells due text

-- the name is not absent, and P holds of all bytes that may stand under it
abbrev pub AllowsOnly : Content → (List ℕ → Type 0) → Type 0
AllowsOnly Untold P = (bytes : List ℕ) → P bytes
AllowsOnly Absent P = ⊥
AllowsOnly (Holds bytes) P = P bytes

-- P holds of all bytes that may stand under the name, if it is not absent
abbrev pub WhereTold : Content → (List ℕ → Type 0) → Type 0
WhereTold Untold P = (bytes : List ℕ) → P bytes
WhereTold Absent P = Unit {0}
WhereTold (Holds bytes) P = P bytes

-- no file that the plan may read is said to be absent
abbrev pub NoneLacks : {S : Type 0} → Plan S → (List ℕ → Content) → Type 0
NoneLacks (Ask name rest) content = AllowsOnly (content name) (λ bytes. NoneLacks (rest bytes) content)
NoneLacks (End due) content = Unit {0}
NoneLacks (Tell due text) content = Unit {0}

-- bytes that a file may have lead to this status
abbrev pub Calls : {S : Type 0} → Plan S → (List ℕ → Content) → S → Type 0
Calls (Ask name rest) content status = Allows (content name) (λ bytes. Calls (rest bytes) content status)
Calls (End due) content status = status ≡ due
Calls (Tell due text) content status = status ≡ due

-- whatever bytes the files may have, no text is told: each ends the run before, or one that it needs is absent
abbrev pub TellsNothing : {S : Type 0} → Plan S → (List ℕ → Content) → Type 0
TellsNothing (Ask name rest) content = WhereTold (content name) (λ bytes. TellsNothing (rest bytes) content)
TellsNothing (End due) content = Unit {0}
TellsNothing (Tell due text) content = ⊥
