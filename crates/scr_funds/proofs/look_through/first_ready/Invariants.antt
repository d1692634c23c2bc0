use Rattle.scr_funds.specs.HandedOn.{AreReady}
use Rattle.scr_funds.proofs.look_through.first_ready.Given as goal

abbrev pub invariant-loop-fund : goal.invariant-loop-fund
invariant-loop-fund l = AreReady l.fund l.waiting l.ready.items
