-- What the rows of a table come to where what stood before is put back.
use Rattle.std.proofs.Common.{◌≡◌, ℕ, zero, suc, ◌+◌, List, [], ◌∷◌, Option, Some, None, IfSome, sum_by, insert, refl, ap, arith}
use Rattle.std.proofs.lemmas.List.Sums.{sum_by-insert}
use Rattle.std.specs.List.{AllByRecursion}
use Rattle.std.specs.Option.{option_map_or}
use Rattle.scr_tables.specs.Tables.{row_of, with_row}
use Rattle.scr_tables.specs.Pasts.{restored, HasPlace}
use Rattle.scr_tables.specs.declared.past.Past.{Past}
use Rattle.scr_tables.specs.declared.past.Past.TheVariants as pasts
use Rattle.scr_tables.proofs.TableRows.{All-row_of, row_of-with_row_own, sum-with_row, sum-without}
use Rattle.scr_book.specs.Pasts.{name_in, row_in}
use Rattle.scr_book.proofs.Moved.{none_there}

module _ {Row : Type 0} (name_of : Row → List ℕ) where
  -- the row of the name goes out of a sum, and the one that comes back comes in
  pub sum-restored : (f : Row → ℕ) (past : Past Row) (rows : List Row) → HasPlace name_of past rows
      → sum_by f (restored name_of past rows) + option_map_or f (row_of name_of (name_in name_of past) rows) 0 ≡ sum_by f rows + option_map_or f (row_in past) 0
  sum-restored f (pasts.New name) rows place = let sum = sum-without name_of f name rows in omega (arith, sum)
  sum-restored f (pasts.Replaced row) rows place = sum-with_row name_of f row rows
  sum-restored f (pasts.Dropped k row room) rows place =
      let none : option_map_or f (row_of name_of (name_of row) rows) 0 ≡ 0 = ap (λ o. option_map_or f o 0) (none_there name_of (name_of row) rows place.1) in
      let sum = sum_by-insert f rows k row in
      omega (arith, none, sum)

  inserted : (P : Row → Type 0) (rows : List Row) (k : ℕ) (row : Row) → AllByRecursion P (insert rows k row) → P row
  inserted P [] zero row all = all.0
  inserted P [] (suc k) row all = all.0
  inserted P (first ∷ rows) zero row all = all.0
  inserted P (first ∷ rows) (suc k) row all = inserted P rows k row all.1

  -- what holds of each row holds of the one that came back
  pub came_back : (P : Row → Type 0) (past : Past Row) (rows : List Row) → AllByRecursion P (restored name_of past rows) → IfSome (row_in past) P
  came_back P (pasts.New name) rows all = tt
  came_back P (pasts.Replaced row) rows all = All-row_of name_of P (name_of row) (with_row name_of row rows) row (row_of-with_row_own name_of row rows) all
  came_back P (pasts.Dropped k row room) rows all = inserted P rows k row all

  -- and of one that stands there
  pub stands : (P : Row → Type 0) (name : List ℕ) (rows : List Row) → AllByRecursion P rows → IfSome (row_of name_of name rows) P
  stands P name rows all = by (row_of name_of name rows) refl
    where
      by : (found : Option Row) → row_of name_of name rows ≡ found → IfSome found P
      by None e = tt
      by (Some row) e = All-row_of name_of P name rows row e all
