-- Rows in pieces (this project's own).
use Rattle.std.specs.Prelude.{◌≡◌, ℕ, ◌++◌, List, [], ◌∷◌, slice_index_or}
use Rattle.std.specs.List.{AllByRecursion}
use Rattle.scr_num.specs.declared.span.Span.{Span}
use Rattle.scr_parallel.specs.declared.rows.Part.{Part}
use Rattle.scr_parallel.specs.declared.rows.Piece.{Piece}
use Rattle.scr_parallel.specs.declared.rows.Sort.{Sort}
use Rattle.scr_parallel.specs.declared.rows.Sort.TheVariants as sorts
use Rattle.scr_parallel.specs.Rows.{AreOfRows, IsWithin, Row, rows_in, rows_of}

-- just these rows lie in the pieces, in their order, and no piece reaches past the rows that there are
pub record ArePieced (count : Sort → ℕ) (rows : List Row) (pieces : List Piece) : Type 0 where
  pub rows_are : rows_of pieces ≡ rows
  pub within : AllByRecursion (IsWithin count) pieces

-- the part has got a piece more, with the spans of its rows
pub record IsPieceReckoned (is_row : Sort → ℕ → List Span → Type 0) (piece : Piece) (before now : Part) : Type 0 where
  pub own : List Span
  pub pieces : now.pieces.items ≡ before.pieces.items ++ piece ∷ []
  pub spans : now.spans.items ≡ before.spans.items ++ own
  pub rows : AreOfRows is_row (rows_in piece) own

-- ---- a piece by its place

-- An empty piece, in place of one past the last (own).
abbrev pub no_piece : Piece
no_piece = record { sort = sorts.Liability; from = 0; end = 0 }

-- Piece `n` of a list, from 0; an empty one past the last (own).
abbrev pub piece_at : List Piece → ℕ → Piece
piece_at pieces n = slice_index_or pieces n no_piece
