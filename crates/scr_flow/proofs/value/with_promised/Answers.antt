use Rattle.std.proofs.Common.{◌≡◌, ◌≤◌, ◌*◌, ℤ, ◌+ℤ◌, ◌*ℤ◌, ◌≤ℤ◌, FitsSigned, w64, unsigned_abs, ap, sym, ◌∙◌, to_z-of_z, arith, rules}
use Rattle.std.specs.Int.{w128}
use Rattle.std.proofs.lemmas.Int.{ints, fits_signed_from_abs}
use Rattle.scr_num.specs.Rounding.{ends, add_ends}
use Rattle.scr_num.proofs.AddedEnds.{same_ends}
use Rattle.scr_flow.proofs.SumLemmas.{natural_ends, other_order, size_of_product, most}
use Rattle.scr_flow.proofs.value.with_promised.Goals as goal

pub invariant_of-result : goal.invariant_of-result
invariant_of-result c =
    let flow_fits : FitsSigned w64 c.args.flow = search rules in
    let span_low_fits : FitsSigned w128 c.args.span.low = search rules in
    let span_high_fits : FitsSigned w128 c.args.span.high = search rules in
    let low_fits : FitsSigned w128 c.product.result = search rules in
    let high_fits : FitsSigned w128 c.product-2.result = search rules in
    let sum_low_fits : FitsSigned w128 c.args.sum.low = search rules in
    let sum_high_fits : FitsSigned w128 c.args.sum.high = search rules in
    let low : c.product.result ≡ c.args.flow *ℤ c.args.span.low = simp to_z-of_z at c.product.ensures.value in
    let high : c.product-2.result ≡ c.args.flow *ℤ c.args.span.high = simp to_z-of_z at c.product-2.ensures.value in
    let low_size : unsigned_abs c.product.result ≤ most * unsigned_abs c.args.flow = simp to_z-of_z at c.product.ensures.size in
    let high_size : unsigned_abs c.product-2.result ≤ most * unsigned_abs c.args.flow = simp to_z-of_z at c.product-2.ensures.size in
    let low_sum : FitsSigned w128 (c.args.sum.low +ℤ c.product.result) = fits_signed_from_abs w128 _ (omega (arith, ints, low_size, c.requires.sum_low, c.requires.flow_in)) in
    let high_sum : FitsSigned w128 (c.args.sum.high +ℤ c.product-2.result) = fits_signed_from_abs w128 _ (omega (arith, ints, high_size, c.requires.sum_high, c.requires.flow_in)) in
    let order : c.product.result ≤ℤ c.product-2.result = rw (low, high) (other_order c.args.flow c.args.span.low c.args.span.high c.requires.not_negative c.args.span.ordered) in
    let ordered = c.args.sum.ordered in
    let sums : (c.args.sum.low +ℤ c.product.result) ≤ℤ (c.args.sum.high +ℤ c.product-2.result) = omega (arith, ints, order, ordered) in
    record { ordered = simp to_z-of_z sums }

pub returns-clause-ends : goal.returns-clause-ends
returns-clause-ends c =
    let flow_fits : FitsSigned w64 c.args.flow = search rules in
    let span_low_fits : FitsSigned w128 c.args.span.low = search rules in
    let span_high_fits : FitsSigned w128 c.args.span.high = search rules in
    let low_fits : FitsSigned w128 c.product.result = search rules in
    let high_fits : FitsSigned w128 c.product-2.result = search rules in
    let sum_low_fits : FitsSigned w128 c.args.sum.low = search rules in
    let sum_high_fits : FitsSigned w128 c.args.sum.high = search rules in
    let low : c.product.result ≡ c.args.flow *ℤ c.args.span.low = simp to_z-of_z at c.product.ensures.value in
    let high : c.product-2.result ≡ c.args.flow *ℤ c.args.span.high = simp to_z-of_z at c.product-2.ensures.value in
    let low_size : unsigned_abs c.product.result ≤ most * unsigned_abs c.args.flow = simp to_z-of_z at c.product.ensures.size in
    let high_size : unsigned_abs c.product-2.result ≤ most * unsigned_abs c.args.flow = simp to_z-of_z at c.product-2.ensures.size in
    let low_sum : FitsSigned w128 (c.args.sum.low +ℤ c.product.result) = fits_signed_from_abs w128 _ (omega (arith, ints, low_size, c.requires.sum_low, c.requires.flow_in)) in
    let high_sum : FitsSigned w128 (c.args.sum.high +ℤ c.product-2.result) = fits_signed_from_abs w128 _ (omega (arith, ints, high_size, c.requires.sum_high, c.requires.flow_in)) in
    simp to_z-of_z (same_ends (c.args.sum.low +ℤ c.product.result) (c.args.sum.high +ℤ c.product-2.result) _ _ (ap (λ (z : ℤ). c.args.sum.low +ℤ z) low) (ap (λ (z : ℤ). c.args.sum.high +ℤ z) high)
    ∙ sym (ap (add_ends (ends c.args.sum)) (natural_ends c.args.flow (ends c.args.span) c.requires.not_negative)))

pub returns-clause-low_size : goal.returns-clause-low_size
returns-clause-low_size c = rw (natural_ends c.args.flow (ends c.args.span) c.requires.not_negative) (size_of_product c.args.flow c.args.span.low most c.requires.low_in)

pub returns-clause-high_size : goal.returns-clause-high_size
returns-clause-high_size c = rw (natural_ends c.args.flow (ends c.args.span) c.requires.not_negative) (size_of_product c.args.flow c.args.span.high most c.requires.high_in)
