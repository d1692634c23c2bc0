use Rattle.std.proofs.Common.{take}
use Rattle.scr_board.specs.Making.{AreWithin}
use Rattle.scr_board.proofs.making.most_places.Given as goal

abbrev pub invariant-loop-n : goal.invariant-loop-n
invariant-loop-n g l = AreWithin l.most (take l.n (g.G.Graph.round l.graph).places)
