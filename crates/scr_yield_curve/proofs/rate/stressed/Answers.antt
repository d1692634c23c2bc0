use Rattle.std.proofs.Common.{◌+◌, FitsSigned, w32, w64, pos, to_z-of_z, arith, rules, length-set}
use Rattle.scr_num.specs.Enclosure.{Measures}
use Rattle.scr_yield_curve.specs.Rate.{rate}
use Rattle.scr_yield_curve.specs.Parts.{parts, IsRateInParts, rates_in_parts}
use Rattle.scr_yield_curve.proofs.CurveLemmas.{curve_by_place, one_more_place}
use Rattle.scr_yield_curve.proofs.rate.stressed.Goals as goal

pub stressed_rate-requires-clause-base_in : goal.stressed_rate-requires-clause-base_in
stressed_rate-requires-clause-base_in c =
    let fits : FitsSigned w32 c.base_at.result = search rules in
    simp to_z-of_z (rw (c.base_at.ensures (pos 0)) (c.requires.limits _ (pos 0) (omega arith)))

pub loop-i-preserved : goal.loop-i-preserved
loop-i-preserved c =
    let base_fits : FitsSigned w32 c.base_at.result = search rules in
    let fits : FitsSigned w64 c.stressed_rate.result = search rules in
    let exact = rw (c.base_at.ensures (pos 0)) at (simp to_z-of_z at c.stressed_rate.ensures.exact) in
    simp to_z-of_z (
      rw length-set c.loop-i.invariant.0,
      one_more_place (λ k z. Measures parts z (rate c.args.rates.now c.args.tilt (k + 1)) × IsRateInParts z) c.loop-i.curve c.loop-i.i c.stressed_rate.result
          (omega arith) c.loop-i.invariant.1 (exact, c.stressed_rate.ensures.in_range),
    )

pub returns-clause-value : goal.returns-clause-value
unfolding rates_in_parts
returns-clause-value c =
    curve_by_place c.loop-i.curve (rate c.args.rates.now c.args.tilt) c.loop-i.invariant.0
    (record { each = λ k d within. (c.loop-i.invariant.1 k d (omega arith)).0 })
