-- What a shelf and a sink tell at one moment, and how a run answers (this project's own).
use Rattle.std.specs.Prelude.{ℕ, List, Option}
use Rattle.scr_io.specs.Content.{Content}

pub record Shelved : Type 0 where
  -- what stands under each name
  pub content : List ℕ → Content
  -- how many opens and reads have failed, and how often an absent name was opened
  pub faults : ℕ
  pub strays : ℕ

pub record Sunk : Type 0 where
  -- what was written, where it is told
  pub written : Option (List ℕ)
  -- how many writes have failed
  pub faults : ℕ

-- why a run gives up what is due
pub data Cause : Type 0 where
  Reading : Cause
  Writing : Cause
  Memory : Cause

-- a run ends with the status that is due, or gives up
pub data Answer (S : Type 0) : Type 0 where
  Due : S → Answer S
  GaveUp : Cause → Answer S

-- what a shelf with these ghost members tells
abbrev pub shelved : (List ℕ → Content) → ℕ → ℕ → Shelved
shelved content faults strays = record { content = content; faults = faults; strays = strays }

-- what a sink with these ghost members tells
abbrev pub sunk : Option (List ℕ) → ℕ → Sunk
sunk written faults = record { written = written; faults = faults }
