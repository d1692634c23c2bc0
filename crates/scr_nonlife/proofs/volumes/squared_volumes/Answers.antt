use Rattle.std.proofs.Common.{◌*◌, arith, rules}
use Rattle.std.specs.Prelude.{ℕ}
use Rattle.std.proofs.lemmas.Nat.{mul-le}
use Rattle.std.proofs.lemmas.List.Sums.{sum_by_more_le, sum_by-take-le}
use Rattle.scr_nonlife.specs.Segment.{regional_volume, total_volume}
use Rattle.scr_nonlife.proofs.SegmentBounds.{squared-at_most}
use Rattle.scr_nonlife.proofs.volumes.squared_volumes.Goals as goal

pub overflow_add-sum : goal.overflow_add-sum
overflow_add-sum c =
    let vs = c.args.volumes.now in
    let t = total_volume vs in
    let more = sum_by_more_le (λ (region : ℕ × ℕ). regional_volume region * regional_volume region) vs c.loop-i.i (0, 0) (search rules) in
    rw c.from-region.ensures (omega (arith, c.loop-i.invariant, more, squared-at_most vs, mul-le t t 10000000000000 10000000000000 c.requires c.requires))

pub returns-clause-at_most : goal.returns-clause-at_most
returns-clause-at_most c =
    let vs = c.args.volumes.now in
    let front = sum_by-take-le (λ (region : ℕ × ℕ). regional_volume region * regional_volume region) vs c.loop-i.i in
    omega (arith, c.loop-i.invariant, front, squared-at_most vs)
