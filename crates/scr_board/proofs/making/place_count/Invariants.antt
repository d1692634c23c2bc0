use Rattle.std.proofs.Common.{◌≡◌, ◌≤◌, length}
use Rattle.scr_board.specs.BoardRounds.{places_at}
use Rattle.scr_board.proofs.making.place_count.Given as goal

abbrev pub invariant-loop-k : goal.invariant-loop-k
invariant-loop-k g l = record {
  count : l.count ≡ l.k;
  within : l.k ≤ length (places_at (g.G.Graph.round l.graph) l.n);
}
