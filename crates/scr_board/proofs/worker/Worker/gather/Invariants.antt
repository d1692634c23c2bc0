use Rattle.std.proofs.Common.{◌≡◌, Some, length, map, take}
use Rattle.scr_num.specs.Rounding.{ends}
use Rattle.scr_board.specs.Passes.{view}
use Rattle.scr_board.specs.BoardRounds.{given, places_at}
use Rattle.scr_board.specs.Working.{HasTaken}
use Rattle.scr_board.proofs.worker.Worker.gather.Given as goal

-- the figures of the places so far
abbrev pub invariant-loop-k : goal.invariant-loop-k
invariant-loop-k g l = record {
  taken : HasTaken l.self.board.now (g.G.Graph.round l.self.graph.now) l.pass l.n;
  same : view l.pass ≡ view l.initial.pass;
  got : map Some (map ends l.pass.got.items) ≡ map (given (g.G.Graph.round l.self.graph.now).worked) (take l.k (places_at (g.G.Graph.round l.self.graph.now) l.n));
  many : length l.pass.got.items ≡ l.k;
}
