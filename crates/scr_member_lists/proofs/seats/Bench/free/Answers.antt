use Rattle.std.proofs.Common.{replicate}
use Rattle.scr_member_lists.specs.Benches.{widened}
use Rattle.scr_member_lists.specs.Seatings.{NOWHERE}
use Rattle.scr_member_lists.proofs.Benches.{same-seats, widened-none}
use Rattle.scr_member_lists.proofs.seats.Bench.free.Goals as goal

pub returns : goal.returns
returns g c =
    same-seats (widened NOWHERE (replicate g.row.N NOWHERE)) (widened 0 (replicate g.row.N 0)) (replicate 11 NOWHERE) (replicate 11 0)
    (widened-none NOWHERE g.row.N) (widened-none 0 g.row.N)
