-- The forms that the values of a factor file have (this project's own).
use Rattle.std.specs.Prelude.{ℕ, ◌+◌, ◌-◌, ◌==◌, nat_le, Bool, not, map, if◌then◌else◌, List, [], ◌∷◌, length}
use Rattle.std.specs.Prelude.{slice_index, slice_index_or, Option, Some, None, option_map, option_and_then, ℤ, pos}
use Rattle.std.specs.Prelude.{negsuc}
use Rattle.std.specs.List.{list_all, find, flat_map, range_with_len}
use Rattle.toml.specs.Data.{Data, Items, no_items, item, as_integer, as_array}

-- a whole number from 0 to the limit
abbrev pub up_to : ℕ → ℤ → Option ℕ
up_to limit (pos n) = if nat_le n limit then Some n else None
up_to limit (negsuc n) = None

abbrev pub whole_number : ℕ → Data → Option ℕ
whole_number limit d = option_and_then (up_to limit) (as_integer d)

-- what the items hold, if each has the form
abbrev pub each : {A : Type 0} → (Data → Option A) → Items → Option (List A)
each form no_items = Some []
each form (item d rest) = option_and_then (λ a. option_map (λ found. a ∷ found) (each form rest)) (form d)

-- a list of so many items that have the form
abbrev pub list_of : {A : Type 0} → ℕ → (Data → Option A) → Data → Option (List A)
list_of count form d =
    option_and_then (λ found. if length found == count then Some found else None)
    (option_and_then (each form) (as_array d))

-- the correlation of the segments i and j, counted from 0
abbrev pub coefficient : List (List ℕ) → ℕ → ℕ → ℕ
coefficient rows i j = slice_index (slice_index_or rows i []) j

abbrev pub has_unit_diagonal : List (List ℕ) → Bool
has_unit_diagonal rows = list_all (λ i. coefficient rows i i == 100) (range_with_len 0 12)

-- twelve rows of twelve hundredths, 0 to 100, with 100 on the diagonal
abbrev pub correlation_rows : Data → Option (List (List ℕ))
correlation_rows d =
    option_and_then (λ rows. if has_unit_diagonal rows then Some rows else None)
    (list_of 12 (list_of 12 (whole_number 100)) d)

-- the number 1
abbrev pub one : Data → Option ℕ
one d = option_and_then (λ n. if n == 1 then Some n else None) (whole_number 1 d)

-- the pairs of segments i and j with i below j, row by row
abbrev pub pairs_in_row : ℕ → List (ℕ × ℕ)
pairs_in_row i = map (λ j. (i, j)) (range_with_len (i + 1) (11 - i))

unfoldable pub pairs : List (ℕ × ℕ)
pairs = flat_map pairs_in_row (range_with_len 0 12)

-- the correlation of the pair is not the same in both directions
abbrev pub differs : List (List ℕ) → ℕ × ℕ → Bool
differs rows p = not (coefficient rows p.0 p.1 == coefficient rows p.1 p.0)

-- the first such pair
unfoldable pub first_asymmetry : List (List ℕ) → Option (ℕ × ℕ)
first_asymmetry rows = find (differs rows) pairs
