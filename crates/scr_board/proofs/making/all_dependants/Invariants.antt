use Rattle.std.proofs.Common.{◌≡◌, take}
use Rattle.scr_board.proofs.making.all_dependants.Given as goal

-- the dependants of the nodes so far
abbrev pub invariant-loop-n : goal.invariant-loop-n
invariant-loop-n g l = l.rows ≡ take l.n (g.G.Graph.round l.graph).dependants
