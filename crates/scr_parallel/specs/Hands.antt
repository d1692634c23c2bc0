-- The hands of workers who draw pieces (this project's own).
use Rattle.std.specs.Prelude.{◌≡◌, ℕ, false, List, [], length, sum_by}
use Rattle.std.specs.List.{AllByRecursion}
use Rattle.scr_num.specs.declared.span.Span.{Span}
use Rattle.scr_board.specs.declared.board.Board.{Board}
use Rattle.scr_board.specs.declared.board.Pass.{Pass}
use Rattle.scr_board.specs.Passes.{progress}
use Rattle.scr_board.specs.Working.{HasTaken, IsBetween, IsDone, IsFresh}
use Rattle.scr_parallel.specs.declared.hands.Hand.{Hand}
use Rattle.scr_parallel.specs.declared.rows.Part.{Part}
use Rattle.scr_parallel.specs.declared.rows.Piece.{Piece}
use Rattle.scr_parallel.specs.declared.rows.Sort.{Sort}
use Rattle.scr_parallel.specs.Apart.{apart_round}
use Rattle.scr_parallel.specs.Pieces.{piece_at}
use Rattle.scr_parallel.specs.Rows.{ArePiecesWithin, IsPart, Row, row_count, rows_in, rows_of, times_row}

-- how often a row stands in the pieces with these numbers
abbrev pub row_times : Row → List Piece → List ℕ → ℕ
row_times one pieces numbers = sum_by (λ n. times_row one (rows_in (piece_at pieces n))) numbers

-- the part holds the spans of the rows of the pieces with these numbers
pub record IsReckoned (count : Sort → ℕ) (is_row : Sort → ℕ → List Span → Type 0) (pieces : List Piece) (numbers : List ℕ) (part : Part)
    : Type 0 where
  pub part_is : IsPart is_row part
  pub within : ArePiecesWithin count part
  pub rows : (one : Row) → times_row one (rows_of part.pieces.items) ≡ row_times one pieces numbers

-- nothing is drawn and nothing reckoned
pub record IsOpen (board : Board) (pieces : List Piece) (hand : Hand) : Type 0 where
  pub fresh : IsFresh board (apart_round (length pieces)) hand.pass
  pub no_pieces : hand.part.pieces.items ≡ []
  pub no_spans : hand.part.spans.items ≡ []
  pub not_full : hand.full ≡ false

-- the pieces that the pass has put are reckoned, and none is in its hand
pub record IsAtWork (board : Board) (count : Sort → ℕ) (is_row : Sort → ℕ → List Span → Type 0) (pieces : List Piece) (hand : Hand)
    : Type 0 where
  pub between : IsBetween board (apart_round (length pieces)) hand.pass
  pub empty : hand.pass.hand.items ≡ []
  pub reckoned : IsReckoned count is_row pieces (progress hand.pass).put hand.part
  pub not_full : hand.full ≡ false

-- and this one is
pub record HasDrawn (board : Board) (count : Sort → ℕ) (is_row : Sort → ℕ → List Span → Type 0) (pieces : List Piece) (hand : Hand) (n : ℕ)
    : Type 0 where
  pub taken : HasTaken board (apart_round (length pieces)) hand.pass n
  pub empty : hand.pass.hand.items ≡ []
  pub reckoned : IsReckoned count is_row pieces (progress hand.pass).put hand.part
  pub not_full : hand.full ≡ false

-- a hand that was not refused memory has reckoned the pieces that its pass has put, and the pass is at its end
pub record HasEnded (board : Board) (count : Sort → ℕ) (is_row : Sort → ℕ → List Span → Type 0) (pieces : List Piece) (hand : Hand)
    : Type 0 where
  pub done : hand.full ≡ false → IsDone board (apart_round (length pieces)) hand.pass
  pub reckoned : hand.full ≡ false → IsReckoned count is_row pieces (progress hand.pass).put hand.part

-- The parts hold what the passes have put, part by part.
pub record AreSorted (board : Board) (count : Sort → ℕ) (is_row : Sort → ℕ → List Span → Type 0) (pieces : List Piece) (passes : List Pass)
    (parts : List Part) : Type 0 where
  pub done : AllByRecursion (IsDone board (apart_round (length pieces))) passes
  pub each : AllByRecursion (IsPart is_row) parts
  pub within : AllByRecursion (ArePiecesWithin count) parts
  pub rows : (one : Row) → row_count one parts ≡ sum_by (λ pass. row_times one pieces (progress pass).put) passes
