use Rattle.std.proofs.Common.{◌≡◌, ap, arith, rules}
use Rattle.scr_num.specs.Rounding.{Ends, ends}
use Rattle.scr_num.proofs.Enclosing.{Encloses-same}
use Rattle.scr_nonlife.specs.SegmentEnds.{segment_ends}
use Rattle.scr_nonlife.specs.Segment.{premium_volume, reserve_volume}
use Rattle.scr_nonlife.proofs.SegmentBounds.{total-is, products, segment-encloses, segment-at_most_the_volume}
use Rattle.scr_nonlife.proofs.segments.segment.Goals as goal

pub deviation-requires : goal.deviation-requires
deviation-requires c =
    let vs = c.args.volumes.now in
    rw (c.from.ensures, c.from-2.ensures, c.from-3.ensures, c.from-4.ensures, c.premium_volume.ensures, c.reserve_volume.ensures)
    (omega (arith, products c.args.premium c.args.reserve (premium_volume vs) (reserve_volume vs) c.requires.premium c.requires.reserve, total-is vs, c.requires.volumes))

pub returns-clause-encloses : goal.returns-clause-encloses
returns-clause-encloses c =
    let e : ends c.shared.result ≡ segment_ends c.args.volumes.now c.args.premium c.args.reserve = search rules in
    Encloses-same 1000 _ _ _ _ _ (ap (λ (x : Ends). x.low) e) (ap (λ (x : Ends). x.high) e) (segment-encloses c.args.volumes.now c.args.premium c.args.reserve)

pub returns-clause-at_most_the_volume : goal.returns-clause-at_most_the_volume
returns-clause-at_most_the_volume c =
    let e : ends c.shared.result ≡ segment_ends c.args.volumes.now c.args.premium c.args.reserve = search rules in
    rw (ap (λ (x : Ends). x.high) e) (segment-at_most_the_volume c.args.volumes.now c.args.premium c.args.reserve c.requires.premium c.requires.reserve)
