use Rattle.scr_factors.proofs.SegmentLemmas.{SearchedTo}
use Rattle.scr_factors.proofs.segments.first_asymmetry.Given as goal

abbrev pub invariant-loop-i : goal.invariant-loop-i
invariant-loop-i l = SearchedTo l.rows l.i
