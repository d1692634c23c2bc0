use Rattle.std.proofs.Common.{◌≡◌, pos, FitsSigned, w64, length, get_or, map, ap, sym, ◌∙◌, to_z, to_z-of_z, arith, rules}
use Rattle.std.proofs.lemmas.List.{get_or-map, length-map}
use Rattle.scr_num.specs.Rounding.{ends}
use Rattle.scr_yield_curve.specs.Parts.{rates_in_parts}
use Rattle.scr_yield_curve.specs.declared.tilt.Tilt.TheVariants as tilts
use Rattle.scr_yield_curve.proofs.RateLemmas.{length-rates_in_parts}
use Rattle.scr_flow.specs.Sums.{flow_ends, weighted_ends}
use Rattle.scr_yield_curve.specs.Falls.{difference, differences}
use Rattle.scr_flow.proofs.SumLemmas.{sum_more, sum_kept, all_added}
use Rattle.scr_yield_curve.proofs.FallLemmas.{length-differences, get_or-differences}
use Rattle.scr_flow.proofs.loss.curve_loss.Goals as goal
use Rattle.scr_flow.proofs.loss.curve_loss.Goals.{then-flow-ne0, else-flow-ne0}

pub loop-i-preserved : goal.loop-i-preserved
loop-i-preserved c =
    let flows = c.args.flows.now in
    let base = rates_in_parts c.args.rates.now tilts.Base in
    let stressed = rates_in_parts c.args.rates.now c.args.tilt in
    let froms = map ends c.args.from.now.at in
    let tos = map ends c.args.to.now.at in
    let i = c.loop-i.i in
    let base_places = length-rates_in_parts c.args.rates.now tilts.Base in
    let stressed_places = length-rates_in_parts c.args.rates.now c.args.tilt in
    let flow_fits : FitsSigned w64 (get_or c.args.flows.now c.loop-i.i (pos 0)) = search rules in
    let from_places : length c.args.from.now.at ≡ 100 = search rules in
    let to_places : length c.args.to.now.at ≡ 100 = search rules in
    let froms_are : length froms ≡ length base = rw length-map (omega (arith, base_places)) in
    let tos_are : length tos ≡ length base = rw length-map (omega (arith, base_places)) in
    let same : length stressed ≡ length base = omega (arith, base_places, stressed_places) in
    let places = length-differences base froms stressed tos froms_are same tos_are in
    elim c.if-flow-ne0.branch [
      | then-flow-ne0 w ↦
          let from = c.index-from-i.result in
          let to = c.index-to-i.result in
          let from_is : get_or froms i (ends from) ≡ ends (get_or c.args.from.now.at i from) = get_or-map ends c.args.from.now.at i from (ends from) (omega arith) in
          let to_is : get_or tos i (ends to) ≡ ends (get_or c.args.to.now.at i to) = get_or-map ends c.args.to.now.at i to (ends to) (omega arith) in
          let lost : ends w.lost_at.result ≡ flow_ends (get_or flows i (pos 0)) (difference (get_or base i (pos 0)) (get_or froms i (ends from)) (get_or stressed i (pos 0)) (get_or tos i (ends to))) =
          rw (from_is, to_is) (simp to_z-of_z at (w.lost_at.ensures.ends (pos 0))) in
          let here = get_or-differences base froms stressed tos i (ends from) (pos 0) (pos 0) (ends from) (ends to) (omega (arith, base_places)) (omega (arith, froms_are, base_places))
          (omega (arith, stressed_places)) (omega (arith, tos_are, base_places)) in
          let term : ends w.lost_at.result ≡ flow_ends (get_or flows i (pos 0)) (get_or (differences base froms stressed tos) i (ends from)) =
          lost ∙ ap (flow_ends (get_or flows i (pos 0))) (sym here) in
          rw (w.sum-is, w.add-sum.ensures.ends)
          (sum_more i flows (differences base froms stressed tos) (ends c.loop-i.sum) (ends w.lost_at.result) (pos 0) (ends from) (omega arith) (omega (arith, places, base_places)) term
          (simp to_z-of_z at w.lost_at.ensures.low_size) (simp to_z-of_z at w.lost_at.ensures.high_size) c.loop-i.invariant)
      | else-flow-ne0 w ↦
          let none : get_or flows i (pos 0) ≡ pos 0 = simp to_z-of_z at (ap (to_z w64) w.if-flow-ne0.false) in
          rw w.sum-is
          (sum_kept i flows (differences base froms stressed tos) (ends c.loop-i.sum) (pos 0) (omega arith) (omega (arith, places, base_places)) none c.loop-i.invariant)
    ]

pub returns-clause-ends : goal.returns-clause-ends
returns-clause-ends c =
    let es = differences (rates_in_parts c.args.rates.now tilts.Base) (map ends c.args.from.now.at) (rates_in_parts c.args.rates.now c.args.tilt) (map ends c.args.to.now.at) in
    all_added (ends c.loop-i.sum) (weighted_ends c.args.flows.now es) c.args.flows.now es c.loop-i.i (omega arith) c.loop-i.invariant.so_far
