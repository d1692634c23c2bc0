use Rattle.std.proofs.Common.{◌≡◌, w16, FitsSigned, ◌≤◌, get_or, pos, to_z, arith, to_z-of_z}
use Rattle.scr_factors.proofs.PadLemmas.{padded_to-next}
use Rattle.scr_factors.proofs.segments.padded.Goals as goal

pub loop-i-preserved : goal.loop-i-preserved
loop-i-preserved c =
    let n = get_or c.args.row.now c.loop-i.i 0 in
    let small : n ≤ 100 = c.requires c.loop-i.i 0 (omega arith) in
    let fits : FitsSigned w16 (pos n) = omega arith in
    let same : to_z w16 n ≡ pos n = to_z-of_z fits in
    rw same (padded_to-next pos (pos 0) 16 c.args.row.now c.loop-i.cells c.loop-i.i 0 (omega arith)
    (omega arith) c.loop-i.invariant)
