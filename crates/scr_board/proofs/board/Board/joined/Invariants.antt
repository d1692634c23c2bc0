use Rattle.std.proofs.Common.{length}
use Rattle.std.specs.List.{AllByRecursion}
use Rattle.scr_board.specs.Closing.{AreDone, HasJoined}
use Rattle.scr_board.specs.BoardRounds.{BoardRound}
use Rattle.scr_board.specs.Working.{IsDone}
use Rattle.scr_board.proofs.board.Board.joined.Given as goal

abbrev pub invariant-loop-pass : goal.invariant-loop-pass
invariant-loop-pass l = record {
  some_round : (round : BoardRound) × AreDone l.self round l.fn.passes.items;
  joined : (round : BoardRound) → AreDone l.self round l.fn.passes.items → HasJoined l.self round l.fn.passes.items l.passes.items l.seat;
  rest : (round : BoardRound) → AreDone l.self round l.fn.passes.items → AllByRecursion (IsDone l.self round) l.passes.items;
}

abbrev pub decreases-loop-pass : goal.decreases-loop-pass
decreases-loop-pass l = length l.passes.items
