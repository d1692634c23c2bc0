use Rattle.std.proofs.Common.{pos}
use Rattle.scr_factors.proofs.PadLemmas.{PaddedTo}
use Rattle.scr_factors.proofs.segments.padded.Given as goal

abbrev pub invariant-loop-i : goal.invariant-loop-i
invariant-loop-i l = PaddedTo pos (pos 0) 16 l.row l.cells l.i
