-- The lists so far have their parts.
use Rattle.scr_member_index.proofs.Counting.{AreGrownTo}
use Rattle.scr_member_index.proofs.parting.grow_all.Given as goal

abbrev pub invariant-loop-number : goal.invariant-loop-number
invariant-loop-number l = AreGrownTo l.table l.firsts l.number l.fn.parts l.parts
