use Rattle.scr_agg.specs.Unbeaten.{alternatives}
use Rattle.scr_agg.proofs.Hulls.{HullSoFar}
use Rattle.scr_agg.proofs.choice.gross_of.Given as goal

abbrev pub invariant-loop-i : goal.invariant-loop-i
invariant-loop-i l = HullSoFar (alternatives l.list) l.i l.gross
