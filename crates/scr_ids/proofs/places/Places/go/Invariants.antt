-- The row that goes stands so far down.
use Rattle.scr_ids.specs.Steps.{Sinking}
use Rattle.scr_ids.proofs.places.Places.go.Given as goal

abbrev pub invariant-loop-m : goal.invariant-loop-m
invariant-loop-m l = Sinking l.table l.k l.m l.fn.self l.self
