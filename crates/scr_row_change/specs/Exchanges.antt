-- A row of a table exchanged (this project's own).
use Rattle.std.specs.Prelude.{◌≡◌, ℕ, List, Option, Some, None, ⊤}
use Rattle.scr_tables.specs.Tables.{with_row, without}

module _ {Row : Type 0} (name_of : Row → List ℕ) where
  -- the rows with this one for the row of the name, or without the row of the name
  abbrev pub exchanged : List ℕ → Option Row → List Row → List Row
  exchanged name None rows = without name_of name rows
  exchanged name (Some row) rows = with_row name_of row rows

  -- a row, if it is one, of this name
  abbrev pub HasName : List ℕ → Option Row → Type 0
  HasName name None = ⊤
  HasName name (Some row) = name_of row ≡ name
