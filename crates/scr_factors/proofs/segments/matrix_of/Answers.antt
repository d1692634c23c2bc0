use Rattle.std.proofs.Common.{[], pos, replicate, arith}
use Rattle.scr_factors.specs.Reading.{padded}
use Rattle.scr_factors.proofs.PadLemmas.{padded_to-next}
use Rattle.scr_factors.proofs.segments.matrix_of.Goals as goal

pub loop-i-preserved : goal.loop-i-preserved
loop-i-preserved c =
    rw c.padded.ensures
    (padded_to-next padded (replicate 16 (pos 0)) 16 c.args.rows.now c.loop-i.cells c.loop-i.i [] (omega arith)
    (omega arith) c.loop-i.invariant)
