-- The row that comes back stands so far up.
use Rattle.std.proofs.Common.{◌≤◌}
use Rattle.scr_ids.specs.Steps.{Rising}
use Rattle.scr_ids.proofs.places.Places.put_back.Given as goal

abbrev pub invariant-loop-m : goal.invariant-loop-m
invariant-loop-m l = record { from : l.k ≤ l.m; rising : Rising l.table l.m l.end l.initial.self l.self }
