-- What is made so far is appended.
use Rattle.scr_made.specs.Made.{segment}
use Rattle.scr_made.specs.Records.{Appends}
use Rattle.scr_made.specs.Draws.{each}
use Rattle.scr_made.proofs.making.push_segments.Given as goal

abbrev pub invariant-loop-k : goal.invariant-loop-k
invariant-loop-k l = Appends (each l.k segment) l.fn.draws.state l.fn.out.items l.draws.state l.out.items
