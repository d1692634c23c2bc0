-- A table (this project's own): its rows in the order in which their names first came, of which no two have one name.
use Rattle.std.specs.Prelude.{ℕ, ◌+◌, Bool, List, [], ◌∷◌, Option, Some, None, is_some, if◌then◌else◌, length}
use Rattle.std.specs.Option.{option_map_or}
use Rattle.scr_tables.specs.Names.{same_name}

module _ {Row : Type 0} (name_of : Row → List ℕ) where
  -- the row of this name
  abbrev pub row_of : List ℕ → List Row → Option Row
  row_of name [] = None
  row_of name (row ∷ rows) = if same_name name (name_of row) then Some row else row_of name rows

  -- there is a row of this name
  abbrev pub has_row : List ℕ → List Row → Bool
  has_row name rows = is_some (row_of name rows)

  -- the row takes the place of the one of its name, and one of a new name goes last
  abbrev pub with_row : Row → List Row → List Row
  with_row new [] = new ∷ []
  with_row new (row ∷ rows) = if same_name (name_of new) (name_of row) then new ∷ rows else row ∷ with_row new rows

  -- the rows without the one of this name, in their order
  abbrev pub without : List ℕ → List Row → List Row
  without name [] = []
  without name (row ∷ rows) = if same_name name (name_of row) then rows else row ∷ without name rows

  -- the row of this name changed in its place, where there is one
  abbrev pub changed : (Row → Row) → List ℕ → List Row → List Row
  changed change name rows = option_map_or (λ row. with_row (change row) rows) (row_of name rows) rows

  -- how many rows there are with one of this name: a row more, unless there is one already
  abbrev pub rows_with : List ℕ → List Row → ℕ
  rows_with name rows = if has_row name rows then length rows else length rows + 1
