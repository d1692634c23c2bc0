-- A table with what stood in it under a name put back (this project's own).
use Rattle.std.specs.Prelude.{◌≡◌, ℕ, ◌<◌, ◌≤◌, true, false, List, length, insert}
use Rattle.scr_tables.specs.Tables.{has_row, with_row, without}
use Rattle.scr_tables.specs.declared.past.Past.{Past}
use Rattle.scr_tables.specs.declared.past.Past.TheVariants as pasts

module _ {Row : Type 0} (name_of : Row → List ℕ) where
  -- a row that was made goes out, one that was replaced takes its place, and one that was taken out stands where it stood
  abbrev pub restored : Past Row → List Row → List Row
  restored (pasts.New name) rows = without name_of name rows
  restored (pasts.Replaced row) rows = with_row name_of row rows
  restored (pasts.Dropped place row room) rows = insert rows place row

  -- what is put back has its place: it takes that of a row of its name, or its name is new and there is room for a row more
  abbrev pub HasPlace : Past Row → List Row → Type 0
  HasPlace (pasts.New name) rows = Unit {0}
  HasPlace (pasts.Replaced row) rows = has_row name_of (name_of row) rows ≡ true
  HasPlace (pasts.Dropped place row room) rows = (place ≤ length rows) × (has_row name_of (name_of row) rows ≡ false) × (length rows < room)

  -- after a row of the name was made or changed, and where nothing was, this leads back to the rows
  pub record LeadsBack (name : List ℕ) (past : Past Row) (rows : List Row) : Type 0 where
    pub put : (row : Row) → name_of row ≡ name → (restored past (with_row name_of row rows) ≡ rows) × HasPlace past (with_row name_of row rows)
    pub still : (restored past rows ≡ rows) × HasPlace past rows
