-- The slots of the dues so far.
use Rattle.std.proofs.Common.{map}
use Rattle.scr_reachability.specs.declared.ranks.Due.{Due}
use Rattle.scr_reachability.specs.Levels.{numbers_of}
use Rattle.scr_subgraph.specs.Slots.{slot_of}
use Rattle.scr_subgraph.proofs.Entering.{AreMapped}
use Rattle.scr_subgraph.proofs.round.all_slots.Given as goal

abbrev pub invariant-loop-due : goal.invariant-loop-due
invariant-loop-due l =
    AreMapped (λ (due : Due). map (slot_of (numbers_of l.dues)) due.sources.items) l.dues l.rows l.due-index
