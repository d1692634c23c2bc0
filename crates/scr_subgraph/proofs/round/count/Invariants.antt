-- The slots so far are counted.
use Rattle.std.proofs.Common.{drop}
use Rattle.scr_subgraph.proofs.Entering.{IsCounting}
use Rattle.scr_subgraph.proofs.round.count.Given as goal

abbrev pub invariant-loop-slot : goal.invariant-loop-slot
invariant-loop-slot l = IsCounting l.row (drop l.slot-index l.row) l.fn.counts l.counts
