use Rattle.std.proofs.Common.{◌≡◌, pos, ◌*ℤ◌, ◌<ℤ◌, ◌≤ℤ◌, FitsSigned, w64, sym, ◌∙◌, to_z-of_z, arith, rules}
use Rattle.std.specs.Int.{w128}
use Rattle.std.proofs.lemmas.Int.{ints}
use Rattle.scr_num.specs.Rounding.{ends}
use Rattle.scr_num.proofs.AddedEnds.{same_ends}
use Rattle.scr_flow.proofs.SumLemmas.{negative_order, other_order, negative_ends, natural_ends}
use Rattle.scr_flow.proofs.value.weighted.Goals as goal
use Rattle.scr_flow.proofs.value.weighted.Goals.{then-flow-lt0, else-flow-lt0}

pub invariant_of-result : goal.invariant_of-result
invariant_of-result c =
    let flow_fits : FitsSigned w64 c.args.flow = search rules in
    let span_low_fits : FitsSigned w128 c.args.span.low = search rules in
    let span_high_fits : FitsSigned w128 c.args.span.high = search rules in
    let low_fits : FitsSigned w128 c.product.result = search rules in
    let high_fits : FitsSigned w128 c.product-2.result = search rules in
    elim c.if-flow-lt0.branch [
      | then-flow-lt0 w ↦
          let below : c.args.flow <ℤ pos 0 = grind (arith, ints, w.if-flow-lt0.true) in
          let low : c.product.result ≡ c.args.flow *ℤ c.args.span.high = simp to_z-of_z at (rw w.first-is at c.product.ensures.value) in
          let high : c.product-2.result ≡ c.args.flow *ℤ c.args.span.low = simp to_z-of_z at (rw w.first-is at c.product-2.ensures.value) in
          record { ordered = simp to_z-of_z (rw (low, high) (negative_order c.args.flow c.args.span.low c.args.span.high below c.args.span.ordered)) }
      | else-flow-lt0 w ↦
          let above : pos 0 ≤ℤ c.args.flow = grind (arith, ints, w.if-flow-lt0.false) in
          let low : c.product.result ≡ c.args.flow *ℤ c.args.span.low = simp to_z-of_z at (rw w.first-is at c.product.ensures.value) in
          let high : c.product-2.result ≡ c.args.flow *ℤ c.args.span.high = simp to_z-of_z at (rw w.first-is at c.product-2.ensures.value) in
          record { ordered = simp to_z-of_z (rw (low, high) (other_order c.args.flow c.args.span.low c.args.span.high above c.args.span.ordered)) }
    ]

pub returns-clause-ends : goal.returns-clause-ends
returns-clause-ends c =
    let flow_fits : FitsSigned w64 c.args.flow = search rules in
    let span_low_fits : FitsSigned w128 c.args.span.low = search rules in
    let span_high_fits : FitsSigned w128 c.args.span.high = search rules in
    let low_fits : FitsSigned w128 c.product.result = search rules in
    let high_fits : FitsSigned w128 c.product-2.result = search rules in
    elim c.if-flow-lt0.branch [
      | then-flow-lt0 w ↦
          let below : c.args.flow <ℤ pos 0 = grind (arith, ints, w.if-flow-lt0.true) in
          let low : c.product.result ≡ c.args.flow *ℤ c.args.span.high = simp to_z-of_z at (rw w.first-is at c.product.ensures.value) in
          let high : c.product-2.result ≡ c.args.flow *ℤ c.args.span.low = simp to_z-of_z at (rw w.first-is at c.product-2.ensures.value) in
          simp to_z-of_z (same_ends c.product.result c.product-2.result _ _ low high ∙ sym (negative_ends c.args.flow (ends c.args.span) below))
      | else-flow-lt0 w ↦
          let above : pos 0 ≤ℤ c.args.flow = grind (arith, ints, w.if-flow-lt0.false) in
          let low : c.product.result ≡ c.args.flow *ℤ c.args.span.low = simp to_z-of_z at (rw w.first-is at c.product.ensures.value) in
          let high : c.product-2.result ≡ c.args.flow *ℤ c.args.span.high = simp to_z-of_z at (rw w.first-is at c.product-2.ensures.value) in
          simp to_z-of_z (same_ends c.product.result c.product-2.result _ _ low high ∙ sym (natural_ends c.args.flow (ends c.args.span) above))
    ]
