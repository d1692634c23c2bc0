-- The lists of the seats from there on have their parts again.
use Rattle.scr_member_index.proofs.Lost.{BackTo}
use Rattle.scr_member_index.proofs.parting.regain_all.Given as goal

abbrev pub invariant-loop-seat : goal.invariant-loop-seat
invariant-loop-seat l = BackTo l.table l.firsts l.at l.fn.parts l.seat l.parts
