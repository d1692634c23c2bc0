use Rattle.std.proofs.Common.{◌≡◌, ◌+◌, List, length}
use Rattle.std.specs.List.{AllByRecursion}
use Rattle.scr_board.specs.declared.board.Board.{Board}
use Rattle.scr_board.specs.Working.{IsFresh}
use Rattle.scr_parallel.specs.declared.rows.Piece.{Piece}
use Rattle.scr_parallel.specs.Apart.{apart_round}
use Rattle.scr_parallel.specs.Hands.{IsOpen}
use Rattle.scr_parallel.proofs.hands.hands_of.Given as goal

-- hands for the passes that were taken, and the others
abbrev pub invariant-loop-pass : goal.invariant-loop-pass
invariant-loop-pass l = record {
  count : length l.passes.items + length l.hands.items ≡ length l.fn.passes.items;
  fresh : (board : Board) (pieces : List Piece) → AllByRecursion (IsFresh board (apart_round (length pieces))) l.fn.passes.items
      → AllByRecursion (IsFresh board (apart_round (length pieces))) l.passes.items;
  open_now : (board : Board) (pieces : List Piece) → AllByRecursion (IsFresh board (apart_round (length pieces))) l.fn.passes.items
      → AllByRecursion (IsOpen board pieces) l.hands.items;
}

abbrev pub decreases-loop-pass : goal.decreases-loop-pass
decreases-loop-pass l = length l.passes.items
