-- The starts among the dues so far.
use Rattle.scr_subgraph.proofs.Entering.{AreBegun}
use Rattle.scr_subgraph.proofs.round.starts_of.Given as goal

abbrev pub invariant-loop-place : goal.invariant-loop-place
invariant-loop-place l = AreBegun l.slots l.starts.items l.place
