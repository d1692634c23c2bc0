-- What stands between certain bytes of a text, and what the first part stands for (this project's own).
use Rattle.std.specs.Prelude.{ℕ, ◌==◌, List, [], ◌∷◌, Option, None, option_map, option_and_then}
use Rattle.std.specs.Borrow.{Bor}
use Rattle.std.specs.List.{slice_split}
use Rattle.std.specs.Option.{option_map_or}

-- what stands between these bytes of a text
abbrev pub parts : ℕ → List ℕ → List (List ℕ)
parts end text = slice_split (λ b. b == end) text

-- what stands between the commas of a text
abbrev pub pieces : List ℕ → List (List ℕ)
pieces text = parts 44 text

-- the parts of what follows such a byte, and none where none came
abbrev pub behind : ℕ → Option (Bor (List ℕ)) → List (List ℕ)
behind end rest = option_map_or (λ text. parts end text.now) rest []

-- what the first field stands for in this form, and the fields after it
abbrev pub first_as : {A : Type 0} → (List ℕ → Option A) → List (List ℕ) → Option (A × List (List ℕ))
first_as form [] = None
first_as form (field ∷ fields) = option_map (λ value. (value, fields)) (form field)

-- what the first two fields stand for, each in its form, and the fields after them
abbrev pub first_pair : {A B : Type 0} → (List ℕ → Option A) → (List ℕ → Option B) → List (List ℕ)
    → Option ((A × B) × List (List ℕ))
first_pair one two fields = option_and_then
    (λ read. option_map (λ more. ((read.0, more.0), more.1)) (first_as two read.1)) (first_as one fields)
