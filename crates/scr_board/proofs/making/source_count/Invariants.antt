use Rattle.std.proofs.Common.{◌≡◌, ◌≤◌, ◌+◌, length, drop}
use Rattle.scr_board.specs.BoardRounds.{nodes_in, places_at}
use Rattle.scr_board.proofs.making.source_count.Given as goal

abbrev pub invariant-loop-k : goal.invariant-loop-k
invariant-loop-k g l = record {
  count : l.count + length (nodes_in (drop l.k (places_at (g.G.Graph.round l.graph) l.n))) ≡ length (nodes_in (places_at (g.G.Graph.round l.graph) l.n));
  low : l.count ≤ l.k;
}
