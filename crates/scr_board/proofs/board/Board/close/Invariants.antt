use Rattle.std.proofs.Common.{◌≡◌, length, map, take}
use Rattle.scr_num.specs.Rounding.{ends}
use Rattle.scr_board.specs.Closing.{AreDone}
use Rattle.scr_board.specs.BoardRounds.{BoardRound}
use Rattle.scr_board.proofs.board.Board.close.Given as goal

-- the figures so far
abbrev pub invariant-loop-n : goal.invariant-loop-n
invariant-loop-n l = record {
  shown : (round : BoardRound) → AreDone l.fn.self round l.fn.passes.items → map ends (take l.n l.out) ≡ take l.n round.worked;
  long : length l.out ≡ length l.fn.out;
}
