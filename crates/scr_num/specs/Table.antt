-- Tables of correlations, and sums over all their cells, this project's own.
use Rattle.std.specs.Prelude.{◌≡◌, ℕ, ℤ, List, [], ◌∷◌, length}
use Rattle.std.specs.List.{AllByRecursion}

-- whole cells over one denominator, row by row
pub record Table : Type 0 where
  pub den : ℕ
  pub rows : List (List ℤ)

-- so many rows, each of as many cells
pub record IsSquare (size : ℕ) (table : Table) : Type 0 where
  pub rows : length table.rows ≡ size
  pub columns : AllByRecursion (λ row. length row ≡ size) table.rows

-- A sum with a term for each cell, made of the cell, the part of its row and the part of its column.
-- `zero` and `add` say in which numbers. Where a cell or a part is missing, nothing is added.
module _ {A B : Type 0} (zero : B) (add : B → B → B) (term : ℤ → A → A → B) where
  -- along one row
  unfoldable pub row_sum : A → List ℤ → List A → B
  row_sum x [] ys = zero
  row_sum x (cell ∷ cells) [] = zero
  row_sum x (cell ∷ cells) (y ∷ ys) = add (term cell x y) (row_sum x cells ys)

  -- over the rows of the parts `xs`, with a column for each of `all`
  unfoldable pub sum_over : List (List ℤ) → List A → List A → B
  sum_over [] xs all = zero
  sum_over (row ∷ rows) [] all = zero
  sum_over (row ∷ rows) (x ∷ xs) all = add (row_sum x row all) (sum_over rows xs all)
