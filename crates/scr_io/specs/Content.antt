-- What a shelf tells of the bytes that stand under a name (this project's own).
use Rattle.std.specs.Prelude.{◌≡◌, ℕ, ◌≤◌, List, ⊤}

-- a shelf that stands for real files tells nothing; one that holds its own says whether it has the name, and its bytes
pub data Content : Type 0 where
  Untold : Content
  Absent : Content
  Holds : List ℕ → Content

-- the name is not absent, and P holds of its bytes where the shelf tells them
abbrev pub IsPresentAnd : Content → (List ℕ → Type 0) → Type 0
IsPresentAnd Untold P = ⊤
IsPresentAnd Absent P = ⊥
IsPresentAnd (Holds bytes) P = P bytes

-- a count of strays: it rises only where the shelf says that the name is absent, and never falls
abbrev pub RisesOnlyIfAbsent : Content → ℕ → ℕ → Type 0
RisesOnlyIfAbsent Untold before now = now ≡ before
RisesOnlyIfAbsent Absent before now = before ≤ now
RisesOnlyIfAbsent (Holds bytes) before now = now ≡ before
