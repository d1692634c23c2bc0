-- The places from the first up to the one at hand are free.
use Rattle.scr_links.specs.Growth.{Freed}
use Rattle.scr_links.proofs.links.free.Given as goal

abbrev pub invariant-loop-place : goal.invariant-loop-place
invariant-loop-place l = Freed l.initial.order l.order l.from l.place
