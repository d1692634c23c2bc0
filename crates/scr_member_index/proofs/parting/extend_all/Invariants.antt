-- The lists of the seats so far have their parts.
use Rattle.scr_member_index.proofs.Seated.{ExtendedTo}
use Rattle.scr_member_index.proofs.parting.extend_all.Given as goal

abbrev pub invariant-loop-seat : goal.invariant-loop-seat
invariant-loop-seat l = ExtendedTo l.change.table l.firsts l.change.before l.change.after l.seat l.fn.parts l.parts
