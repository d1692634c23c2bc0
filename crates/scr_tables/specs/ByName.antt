-- How a table is kept (this project's own): a map from each name to its row.
use Rattle.std.specs.Prelude.{ℕ, List, map}

-- the rows, each under its name
abbrev pub by_name : {Row : Type 0} → (Row → List ℕ) → List Row → List (List ℕ × Row)
by_name name_of rows = map (λ row. (name_of row, row)) rows
