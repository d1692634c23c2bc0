use Rattle.std.proofs.Common.{pos, replicate}
use Rattle.scr_factors.specs.Reading.{padded}
use Rattle.scr_factors.proofs.PadLemmas.{PaddedTo}
use Rattle.scr_factors.proofs.segments.matrix_of.Given as goal

abbrev pub invariant-loop-i : goal.invariant-loop-i
invariant-loop-i l = PaddedTo padded (replicate 16 (pos 0)) 16 l.rows l.cells l.i
