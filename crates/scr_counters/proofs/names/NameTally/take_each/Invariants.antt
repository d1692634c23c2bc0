use Rattle.std.proofs.Common.{take}
use Rattle.scr_counters.specs.Users.{uses_each, nothing, Moves}
use Rattle.scr_counters.proofs.names.NameTally.take_each.Given as goal

abbrev pub invariant-loop-name : goal.invariant-loop-name
invariant-loop-name l = Moves (uses_each (take l.name-index l.names)) nothing l.fn.self l.self
