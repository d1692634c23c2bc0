use Rattle.std.proofs.Common.{◌≡◌, ℕ, ◌*◌, ◌<◌, ap, ap₂, ◌∙◌, mul-pos, arith, rules}
use Rattle.scr_num.specs.Rounding.{Ends, ends}
use Rattle.scr_num.specs.Ratio.{ratio_unit, ratio_ends}
use Rattle.scr_num.proofs.Enclosing.{Encloses-same}
use Rattle.scr_nonlife.specs.Segment.{total_volume, squared_volumes}
use Rattle.scr_nonlife.specs.SegmentEnds.{diversification_ends}
use Rattle.scr_nonlife.proofs.SegmentBounds.{diversification-encloses, diversification-some}
use Rattle.scr_nonlife.proofs.segments.diversification.Goals as goal

pub returns-then-total-eq0-clause-encloses : goal.returns-then-total-eq0-clause-encloses
returns-then-total-eq0-clause-encloses c =
    let e : ends c.exact.result ≡ diversification_ends c.args.volumes.now = search rules in
    Encloses-same ratio_unit _ _ _ _ _ (ap (λ (x : Ends). x.low) e) (ap (λ (x : Ends). x.high) e) (diversification-encloses c.args.volumes.now)

worked : (c : goal.After-ratio) → 0 < c.from-total.result → ends c.ratio.result ≡ diversification_ends c.args.volumes.now
worked c some =
    let total = c.from-total.ensures ∙ c.total_volume.ensures in
    let positive : 0 < total_volume c.args.volumes.now = rw (← total) some in
    c.ratio.ensures.ends
    ∙ ap₂ ratio_ends c.squared_volumes.ensures.value (ap (λ (t : ℕ). t * t) total)
    ∙ diversification-some (squared_volumes c.args.volumes.now) (total_volume c.args.volumes.now * total_volume c.args.volumes.now) (mul-pos positive positive)

pub returns-else-total-eq0-clause-ends : goal.returns-else-total-eq0-clause-ends
returns-else-total-eq0-clause-ends c = worked c (omega arith)

pub returns-else-total-eq0-clause-encloses : goal.returns-else-total-eq0-clause-encloses
returns-else-total-eq0-clause-encloses c =
    let e = worked c (omega arith) in
    Encloses-same ratio_unit _ _ _ _ _ (ap (λ (x : Ends). x.low) e) (ap (λ (x : Ends). x.high) e) (diversification-encloses c.args.volumes.now)
