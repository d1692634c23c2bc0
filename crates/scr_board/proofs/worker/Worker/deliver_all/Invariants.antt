use Rattle.std.proofs.Common.{◌≡◌}
use Rattle.scr_board.specs.Passes.{progress}
use Rattle.scr_board.specs.Working.{IsDelivering}
use Rattle.scr_board.proofs.worker.Worker.deliver_all.Given as goal

abbrev pub invariant-loop-k : goal.invariant-loop-k
invariant-loop-k g l = record {
  delivering : IsDelivering l.self.board.now (g.G.Graph.round l.self.graph.now) l.pass l.n l.k;
  put : (progress l.pass).put ≡ (progress l.initial.pass).put;
}
