-- What goes out of a table and what comes back where what stood before is put back (this project's own).
use Rattle.std.specs.Prelude.{ℕ, ℤ, List, [], Option, Some, None}
use Rattle.std.specs.Option.{option_map_or}
use Rattle.scr_tables.specs.declared.past.Past.{Past}
use Rattle.scr_tables.specs.declared.past.Past.TheVariants as pasts
use Rattle.scr_sheet.specs.declared.rows.Stake.{Stake}

-- the name of the row
abbrev pub name_in : {Row : Type 0} → (Row → List ℕ) → Past Row → List ℕ
name_in name_of (pasts.New name) = name
name_in name_of (pasts.Replaced row) = name_of row
name_in name_of (pasts.Dropped place row room) = name_of row

-- the row that comes back, if there was one
abbrev pub row_in : {Row : Type 0} → Past Row → Option Row
row_in (pasts.New name) = None
row_in (pasts.Replaced row) = Some row
row_in (pasts.Dropped place row room) = Some row

-- the components of a fund that comes back; none where there was no fund
abbrev pub components_in : Past Stake → List (List ℕ × ℤ)
components_in past = option_map_or (λ s. s.fund.components) (row_in past) []
