use Rattle.std.proofs.Common.{arith, rules}
use Rattle.std.specs.Prelude.{ℕ}
use Rattle.std.proofs.lemmas.List.Sums.{sum_by_more_le}
use Rattle.scr_nonlife.proofs.SegmentBounds.{total-is}
use Rattle.scr_nonlife.proofs.volumes.reserve_volume.Goals as goal

pub overflow_add-sum : goal.overflow_add-sum
overflow_add-sum c =
    let vs = c.args.volumes.now in
    omega (arith, c.loop-i.invariant, sum_by_more_le (λ (region : ℕ × ℕ). region.1) vs c.loop-i.i (0, 0) (search rules), total-is vs, c.requires)
