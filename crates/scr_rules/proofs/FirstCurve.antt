-- The first row of a table, where it has a name.
use Rattle.std.proofs.Common.{◌≡◌, ℕ, true, List, [], ◌∷◌, Some, arith}
use Rattle.std.specs.Prelude.{slice_get}
use Rattle.scr_tables.specs.Names.{same_name}
use Rattle.scr_tables.specs.Tables.{has_row}
use Rattle.scr_tables.proofs.TableRows.{same_name-is}

module _ {Row : Type 0} (name_of : Row → List ℕ) where
  pub first-has : (name : List ℕ) (rows : List Row) (row : Row) → slice_get rows 0 ≡ Some row → same_name (name_of row) name ≡ true → has_row name_of name rows ≡ true
  first-has name [] row is same = absurd (cc)
  first-has name (first ∷ rows) row is same = grind (arith, is, same, same_name-is (name_of row) name)
