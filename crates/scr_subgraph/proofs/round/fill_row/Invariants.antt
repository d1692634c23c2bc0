-- The slots of the sources so far.
use Rattle.scr_subgraph.specs.Slots.{slot_of}
use Rattle.scr_subgraph.proofs.Entering.{AreMapped}
use Rattle.scr_subgraph.proofs.round.fill_row.Given as goal

abbrev pub invariant-loop-source : goal.invariant-loop-source
invariant-loop-source l = AreMapped (slot_of l.places.list) l.sources l.row.items l.source-index
