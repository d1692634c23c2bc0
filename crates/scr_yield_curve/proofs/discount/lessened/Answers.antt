use Rattle.std.proofs.Common.{◌≡◌, ◌<◌, pos, ◌*ℤ◌, FitsSigned, to_z-of_z, arith, rules}
use Rattle.std.specs.Int.{w128}
use Rattle.std.proofs.lemmas.Int.{ints}
use Rattle.scr_num.specs.Rounding.{floor_div, ceil_div}
use Rattle.scr_num.proofs.AddedEnds.{same_ends}
use Rattle.scr_yield_curve.specs.Parts.{parts}
use Rattle.scr_yield_curve.proofs.TwoSteps.{down, up-by-width}
use Rattle.scr_yield_curve.proofs.discount.lessened.Goals as goal

pub invariant_of-result : goal.invariant_of-result
invariant_of-result c =
    let low_fits : FitsSigned w128 c.from.result = search rules in
    let high_fits : FitsSigned w128 c.from-2.result = search rules in
    record { ordered = simp to_z-of_z (omega (arith, ints, c.from.ensures, c.from-2.ensures)) }

pub returns : goal.returns
returns c =
    let least : 0 < c.args.growth = omega (arith, c.requires.least) in
    let span_low : FitsSigned w128 c.args.span.low = search rules in
    let span_high : FitsSigned w128 c.args.span.high = search rules in
    let quotient = simp to_z-of_z at c.divided-low.ensures.quotient in
    let rest = simp to_z-of_z at c.divided-low.ensures.rest in
    let low : c.from.result ≡ floor_div (c.args.span.low *ℤ pos parts) c.args.growth =
    down c.args.span.low c.args.growth c.divided-low.result.0 c.from.result c.requires.discount.low c.from.ensures quotient in
    let high : c.from-2.result ≡ ceil_div (c.args.span.high *ℤ pos parts) c.args.growth =
    up-by-width c.args.span.low c.args.span.high c.width.result c.args.growth c.divided-low.result.0 c.divided-low.result.1 c.div_ceil-more.result c.from-2.result
    c.requires.discount.low least c.width.ensures.value c.from-2.ensures quotient rest c.div_ceil-more.ensures in
    let low_fits : FitsSigned w128 c.from.result = search rules in
    let high_fits : FitsSigned w128 c.from-2.result = search rules in
    simp to_z-of_z (same_ends c.from.result c.from-2.result _ _ low high)
