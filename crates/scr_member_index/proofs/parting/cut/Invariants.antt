-- The lists of the seats so far are cut.
use Rattle.scr_member_index.proofs.Seated.{CutTo}
use Rattle.scr_member_index.proofs.parting.cut.Given as goal

abbrev pub invariant-loop-seat : goal.invariant-loop-seat
invariant-loop-seat l = CutTo l.table l.firsts l.at l.seat l.fn.parts l.parts
