-- Which numbers were ever a component (this project's own): each by its place, and what has no place never was.
use Rattle.std.specs.Prelude.{◌≡◌, ℕ, Bool, true, false, List, [], ◌∷◌, slice_index_or, slice_set}

abbrev pub IsMarked : List Bool → ℕ → Type 0
IsMarked marks number = slice_index_or marks number false ≡ true

-- what was marked is so still
abbrev pub KeepsMarks : List Bool → List Bool → Type 0
KeepsMarks old new = (number : ℕ) → IsMarked old number → IsMarked new number

-- the marks once these numbers have one
abbrev pub with_marks : List ℕ → List Bool → List Bool
with_marks [] marks = marks
with_marks (number ∷ numbers) marks = with_marks numbers (slice_set marks number true)
