-- What closes a board.
use Rattle.std.specs.Prelude.{◌≡◌, ℕ, ◌+◌, ◌*◌, List, ⊤, length, slice_index, sum_by}
use Rattle.std.specs.List.{AllByRecursion}
use Rattle.atomic_table.specs.declared.shared.Seat.{Seat}
use Rattle.scr_num.specs.Rounding.{Ends}
use Rattle.scr_board.specs.Counts.{times}
use Rattle.scr_board.specs.Sound.{IsAtEnd}
use Rattle.scr_board.specs.declared.board.Board.{Board}
use Rattle.scr_board.specs.declared.board.Pass.{Pass}
use Rattle.scr_board.specs.declared.views.View.{View}
use Rattle.scr_board.specs.Passes.{IsSeatOf, progress}
use Rattle.scr_board.specs.BoardRounds.{BoardRound, IsBoardRound, lists_of}
use Rattle.scr_board.specs.Words.{words_of}
use Rattle.scr_board.specs.Working.{IsDone}

-- all passes of a board are at their end
pub record AreDone (board : Board) (round : BoardRound) (passes : List Pass) : Type 0 where
  pub each : AllByRecursion (IsDone board round) passes
  pub count : length passes ≡ board.workers

-- how often passes have put a node, and how many nodes
abbrev pub puts_of : ℕ → List Pass → ℕ
puts_of n passes = sum_by (λ pass. times n (progress pass).put) passes

-- The number of nodes that all passes have put (own).
abbrev pub put_count : List Pass → ℕ
put_count passes = sum_by (λ pass. length (progress pass).put) passes

-- a seat that has taken over what the other passes did
pub record HasJoined (board : Board) (round : BoardRound) (all rest : List Pass) (seat : Seat ⊤ View) : Type 0 where
  pub of_board : IsSeatOf board seat
  pub formed : IsBoardRound round
  pub lists : seat.me.0.round ≡ lists_of round
  pub end : IsAtEnd seat.me.0.round seat.me.0.progress
  pub share : length rest + seat.me.0.progress.share ≡ board.workers
  pub each : (n : ℕ) → puts_of n rest + times n seat.me.0.progress.put ≡ puts_of n all
  pub count : put_count rest + length seat.me.0.progress.put ≡ put_count all

-- the words of the node n are those of a figure
pub record IsShown (words : List ℕ) (n : ℕ) (figure : Ends) : Type 0 where
  pub first : slice_index words (5 * n + 2) ≡ slice_index (words_of figure) 0
  pub second : slice_index words (5 * n + 3) ≡ slice_index (words_of figure) 1
  pub third : slice_index words (5 * n + 4) ≡ slice_index (words_of figure) 2
  pub fourth : slice_index words (5 * n + 5) ≡ slice_index (words_of figure) 3
