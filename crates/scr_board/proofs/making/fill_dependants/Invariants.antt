use Rattle.std.proofs.Common.{◌≡◌, ◌≤◌, [], get_or, length, take}
use Rattle.scr_board.proofs.making.fill_dependants.Given as goal

abbrev pub invariant-loop-k : goal.invariant-loop-k
invariant-loop-k g l = record {
  row : l.row.items ≡ take l.k (get_or (g.G.Graph.round l.graph).dependants l.n []);
  within : l.k ≤ length (get_or (g.G.Graph.round l.graph).dependants l.n []);
}
