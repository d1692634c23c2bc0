use Rattle.std.proofs.Common.{◌≡◌, ◌+◌, ◌-◌, length}
use Rattle.scr_board.specs.Passes.{progress}
use Rattle.scr_board.specs.Working.{IsBetween}
use Rattle.scr_board.proofs.worker.work_one.Given as goal

abbrev pub invariant-loop-n : goal.invariant-loop-n
invariant-loop-n g l = record {
  between : IsBetween l.board (g.G.Graph.round l.graph) l.pass;
  steps : l.steps ≡ l.initial.steps + length (progress l.pass).put;
}

abbrev pub decreases-loop-n : goal.decreases-loop-n
decreases-loop-n g l = length (g.G.Graph.round l.graph).places - length (progress l.pass).put
