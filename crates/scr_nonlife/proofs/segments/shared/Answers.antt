use Rattle.std.proofs.Common.{◌∙◌, unsigned_abs, FitsSigned, to_z-of_z, arith, rules, lit<}
use Rattle.std.specs.Int.{w128}
use Rattle.std.proofs.lemmas.Int.{ints}
use Rattle.std.proofs.lemmas.Nat.{mul-le}
use Rattle.scr_num.proofs.AddedEnds.{same_ends}
use Rattle.scr_num.proofs.Quotients.{floor_div-le-ceil_div}
use Rattle.scr_nonlife.specs.SegmentEnds.{products_of_a_grain}
use Rattle.scr_nonlife.proofs.SegmentBounds.{products-rise, floor_from, ceil_from}
use Rattle.scr_nonlife.proofs.segments.shared.Goals as goal

pub scale-high-requires-clause-low_fits : goal.scale-high-requires-clause-low_fits
scale-high-requires-clause-low_fits c =
    let root_fits : FitsSigned w128 c.args.root.high = search rules in
    let share_fits : FitsSigned w128 c.args.share.high = search rules in
    let root = simp to_z-of_z at c.exact-2.ensures.low in
    let share = simp to_z-of_z at c.unsigned_abs-2.ensures.value in
    rw (root, share)
    (omega (arith, mul-le (unsigned_abs c.args.root.high) (unsigned_abs c.args.share.high) 18446744073709551616 4000000000000000000 c.requires.root_small c.requires.share_small))

pub scale-high-requires-clause-high_fits : goal.scale-high-requires-clause-high_fits
scale-high-requires-clause-high_fits c =
    let root_fits : FitsSigned w128 c.args.root.high = search rules in
    let share_fits : FitsSigned w128 c.args.share.high = search rules in
    let root = simp to_z-of_z at c.exact-2.ensures.high in
    let share = simp to_z-of_z at c.unsigned_abs-2.ensures.value in
    rw (root, share)
    (omega (arith, mul-le (unsigned_abs c.args.root.high) (unsigned_abs c.args.share.high) 18446744073709551616 4000000000000000000 c.requires.root_small c.requires.share_small))

pub spanning-requires : goal.spanning-requires
spanning-requires c =
    let low_root : FitsSigned w128 c.args.root.low = search rules in
    let low_share : FitsSigned w128 c.args.share.low = search rules in
    let high_root : FitsSigned w128 c.args.root.high = search rules in
    let high_share : FitsSigned w128 c.args.share.high = search rules in
    let low = floor_from c.scale-low.result.low c.exact.result.low c.args.root.low c.args.share.low c.unsigned_abs.result c.requires.share_not_negative
    c.scale-low.ensures.low (simp to_z-of_z at c.exact.ensures.low) (simp to_z-of_z at c.unsigned_abs.ensures.value) in
    let high = ceil_from c.scale-high.result.high c.exact-2.result.high c.args.root.high c.args.share.high c.unsigned_abs-2.result (omega (arith, ints, c.args.share.ordered))
    c.scale-high.ensures.high (simp to_z-of_z at c.exact-2.ensures.high) (simp to_z-of_z at c.unsigned_abs-2.ensures.value) in
    rw (low, high)
    (floor_div-le-ceil_div _ _ products_of_a_grain (lit< tt)
    (products-rise c.args.root.low c.args.root.high c.args.share.low c.args.share.high c.requires.root_not_negative c.args.root.ordered c.requires.share_not_negative c.args.share.ordered))

pub returns : goal.returns
returns c =
    let low_root : FitsSigned w128 c.args.root.low = search rules in
    let low_share : FitsSigned w128 c.args.share.low = search rules in
    let high_root : FitsSigned w128 c.args.root.high = search rules in
    let high_share : FitsSigned w128 c.args.share.high = search rules in
    let low = floor_from c.scale-low.result.low c.exact.result.low c.args.root.low c.args.share.low c.unsigned_abs.result c.requires.share_not_negative
    c.scale-low.ensures.low (simp to_z-of_z at c.exact.ensures.low) (simp to_z-of_z at c.unsigned_abs.ensures.value) in
    let high = ceil_from c.scale-high.result.high c.exact-2.result.high c.args.root.high c.args.share.high c.unsigned_abs-2.result (omega (arith, ints, c.args.share.ordered))
    c.scale-high.ensures.high (simp to_z-of_z at c.exact-2.ensures.high) (simp to_z-of_z at c.unsigned_abs-2.ensures.value) in
    same_ends _ _ _ _ (c.spanning.ensures.low ∙ low) (c.spanning.ensures.high ∙ high)
