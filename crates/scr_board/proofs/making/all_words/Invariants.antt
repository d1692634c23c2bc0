use Rattle.std.proofs.Common.{◌≡◌, ◌++◌, drop}
use Rattle.scr_board.specs.Making.{node_words, opening_words}
use Rattle.scr_board.proofs.making.all_words.Given as goal

abbrev pub invariant-loop-n : goal.invariant-loop-n
invariant-loop-n g l = l.words.items ++ node_words (drop l.n (g.G.Graph.round l.graph).places) ≡ opening_words (g.G.Graph.round l.graph)
