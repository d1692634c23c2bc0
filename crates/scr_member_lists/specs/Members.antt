-- The members of one list by position (own): a new member is appended, a leaving one is swap-removed, and nothing else moves.
use Rattle.std.specs.Prelude.{ℕ, ◌-◌, ◌==◌, ◌++◌, Bool, true, false, List, [], ◌∷◌, Option, Some, None, if◌then◌else◌, length, slice_index_or, slice_set, take}
use Rattle.std.specs.List.{list_any, position_or_len}
use Rattle.scr_tables.specs.Names.{same_name}

-- A member list (own): its names in the order of their positions, and how many further members fit without new memory.
pub record MemberList : Type 0 where
  pub names : List (List ℕ)
  pub room : ℕ

-- The name is a member of the list (own).
abbrev pub has : List ℕ → List (List ℕ) → Bool
has name roll = list_any (same_name name) roll

-- The name at a position of the list, counted from 0; the empty name past the end (own).
abbrev pub name_at : ℕ → List (List ℕ) → List ℕ
name_at place roll = slice_index_or roll place []

-- The list after a name was appended (own).
abbrev pub come : List ℕ → List (List ℕ) → List (List ℕ)
come name roll = roll ++ name ∷ []

-- The list after the member at `place` was swap-removed: the last member takes its position (own).
abbrev pub left : ℕ → List (List ℕ) → List (List ℕ)
left place roll = take (length roll - 1) (slice_set roll place (name_at (length roll - 1) roll))

-- The list after a swap-removal at `place` was undone (own): the name has its position again, and the member that had taken it is
-- last.
abbrev pub back_at : ℕ → List ℕ → List (List ℕ) → List (List ℕ)
back_at place name roll =
    if place == length roll then come name roll else come (name_at place roll) (slice_set roll place name)

-- The list after one name joins, leaves, or does neither (own). `was` and `is` say whether the name is a member before and after.
abbrev pub moved : List ℕ → (was is : Bool) → List (List ℕ) → List (List ℕ)
moved name false true roll = come name roll
moved name true false roll = left (position_or_len (same_name name) roll) roll
moved name was is roll = roll

-- The list after a name was set back to its earlier position, or removed if it had none (own). A name that is a member stays where
-- it is.
abbrev pub returned : List ℕ → (before : Option ℕ) → List (List ℕ) → List (List ℕ)
returned name None roll = moved name (has name roll) false roll
returned name (Some place) roll = if has name roll then roll else back_at place name roll
