use Rattle.std.proofs.Common.{arith}
use Rattle.scr_nonlife.proofs.SegmentBounds.{total-is}
use Rattle.scr_nonlife.proofs.volumes.total_volume.Goals as goal

pub overflow_add-result : goal.overflow_add-result
overflow_add-result c =
    omega (arith, c.premium_volume.ensures, c.reserve_volume.ensures, total-is c.args.volumes.now, c.requires)

pub returns : goal.returns
returns c = omega (arith, c.premium_volume.ensures, c.reserve_volume.ensures, total-is c.args.volumes.now)
