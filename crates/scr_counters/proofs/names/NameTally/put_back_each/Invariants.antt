use Rattle.std.proofs.Common.{take}
use Rattle.scr_counters.specs.Users.{uses_each, nothing, Moves}
use Rattle.scr_counters.proofs.names.NameTally.put_back_each.Given as goal

abbrev pub invariant-loop-name : goal.invariant-loop-name
invariant-loop-name l = Moves nothing (uses_each (take l.name-index l.names)) l.fn.self l.self
