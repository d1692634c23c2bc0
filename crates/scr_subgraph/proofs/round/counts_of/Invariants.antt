-- The dues so far are counted.
use Rattle.scr_subgraph.proofs.Entering.{IsAdding}
use Rattle.scr_subgraph.proofs.round.counts_of.Given as goal

abbrev pub invariant-loop-place : goal.invariant-loop-place
invariant-loop-place l = IsAdding l.slots l.counts.items l.place
