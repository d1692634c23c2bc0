-- None so far is of a due.
use Rattle.std.proofs.Common.{◌≡◌, drop}
use Rattle.scr_subgraph.specs.Naming.{is_start}
use Rattle.scr_subgraph.proofs.round.is_start.Given as goal

abbrev pub invariant-loop-slot : goal.invariant-loop-slot
invariant-loop-slot l = is_start (drop l.slot-index l.row) ≡ is_start l.row
