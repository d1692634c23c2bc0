-- Rows of several sorts, and the spans of their figures (this project's own).
use Rattle.std.specs.Prelude.{◌≡◌, ℕ, ◌-◌, ◌<◌, ◌≤◌, ◌++◌, Bool, ◌&&◌, List, [], ◌∷◌, count_by, flat_map, map, nat_eq, sum_by}
use Rattle.std.specs.List.{AllByRecursion, range_with_len}
use Rattle.scr_num.specs.declared.span.Span.{Span}
use Rattle.scr_parallel.specs.declared.rows.Part.{Part}
use Rattle.scr_parallel.specs.declared.rows.Piece.{Piece}
use Rattle.scr_parallel.specs.declared.rows.Sort.{Sort}
use Rattle.scr_parallel.specs.declared.rows.Sort.TheVariants as sorts

-- A row of one sort, at its position from 0 (own).
pub record Row : Type 0 where
  pub sort : Sort
  pub place : ℕ

-- The row of this sort at this position (own).
abbrev pub row : Sort → ℕ → Row
row sort place = record { sort = sort; place = place }

-- ---- the rows of pieces

-- so many rows of a sort, from a place on
abbrev pub rows_from : Sort → ℕ → ℕ → List Row
rows_from sort from many = map (row sort) (range_with_len from many)

-- The rows of a piece, from its first position up to its end, which is excluded (own).
abbrev pub rows_in : Piece → List Row
rows_in piece = rows_from piece.sort piece.from (piece.end - piece.from)

-- The rows of all pieces, in order (own).
abbrev pub rows_of : List Piece → List Row
rows_of pieces = flat_map rows_in pieces

-- all that there are, by how many there are of each sort
abbrev pub all_rows : (Sort → ℕ) → List Row
all_rows count =
    rows_from sorts.Liability 0 (count sorts.Liability)
    ++ (rows_from sorts.Security 0 (count sorts.Security) ++ rows_from sorts.Group 0 (count sorts.Group))

-- ---- how often a row stands among rows

-- The number of a sort, from 0, by which sorts are compared (own).
abbrev pub sort_number : Sort → ℕ
sort_number sorts.Liability = 0
sort_number sorts.Security = 1
sort_number sorts.Group = 2

-- Whether two rows have the same sort and position (own).
abbrev pub same_row : Row → Row → Bool
same_row one other = nat_eq (sort_number one.sort) (sort_number other.sort) && nat_eq one.place other.place

-- The number of times a row stands in a list (own).
abbrev pub times_row : Row → List Row → ℕ
times_row one rows = count_by (same_row one) rows

-- ---- spans of rows

-- those of one row stand behind what was there
pub record IsPushed (is_row : List Span → Type 0) (before now : List Span) : Type 0 where
  pub own : List Span
  pub now_is : now ≡ before ++ own
  pub right : is_row own

-- the spans are those of these rows, row after row
abbrev pub AreOfRows : (Sort → ℕ → List Span → Type 0) → List Row → List Span → Type 0
AreOfRows is_row [] spans = spans ≡ []
AreOfRows is_row (one ∷ rows) spans =
    (own : List Span) × (rest : List Span) × (spans ≡ own ++ rest) × is_row one.sort one.place own × AreOfRows is_row rows rest

-- The spans of a part are the figures of the rows of its pieces, in order (own).
abbrev pub IsPart : (Sort → ℕ → List Span → Type 0) → Part → Type 0
IsPart is_row part = AreOfRows is_row (rows_of part.pieces.items) part.spans.items

-- how often a row stands in parts
abbrev pub row_count : Row → List Part → ℕ
row_count one parts = sum_by (λ part. times_row one (rows_of part.pieces.items)) parts

-- the piece ends with the rows of its sort, or before
pub record IsWithin (count : Sort → ℕ) (piece : Piece) : Type 0 where
  pub ordered : piece.from ≤ piece.end
  pub low : piece.end ≤ count piece.sort

-- Each piece of a part lies within the rows that there are of its sort (own).
abbrev pub ArePiecesWithin : (Sort → ℕ) → Part → Type 0
ArePiecesWithin count part = AllByRecursion (IsWithin count) part.pieces.items

-- Each part holds the spans of the rows of its pieces, and each row that there is stands in just one piece of one part.
pub record AreAllRows (count : Sort → ℕ) (is_row : Sort → ℕ → List Span → Type 0) (parts : List Part) : Type 0 where
  pub each : AllByRecursion (IsPart is_row) parts
  pub within : AllByRecursion (ArePiecesWithin count) parts
  pub once : (sort : Sort) (place : ℕ) → place < count sort → row_count (row sort place) parts ≡ 1
