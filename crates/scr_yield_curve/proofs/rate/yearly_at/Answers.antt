use Rattle.std.proofs.Common.{◌≡◌, ◌+◌, ◌-◌, min, length, get_or, FitsSigned, w64, pos, sym, ◌∙◌, to_z-of_z, arith, rules}
use Rattle.std.proofs.lemmas.List.FromFn.{get_or-map-range_with_len}
use Rattle.scr_num.specs.Enclosure.{Measures}
use Rattle.scr_yield_curve.specs.Rate.{rate}
use Rattle.scr_yield_curve.specs.Parts.{parts, in_parts, rates_in_parts}
use Rattle.scr_yield_curve.proofs.CurveLemmas.{in_parts_exact}
use Rattle.scr_yield_curve.proofs.StressLemmas.{narrowed_rate}
use Rattle.scr_yield_curve.proofs.rate.yearly_at.Goals as goal

pub returns : goal.returns
unfolding rates_in_parts
returns c = λ d.
    let rates = c.args.rates.now in
    let at = min (c.args.place + 1) (length rates) - 1 in
    let place : c.min.result ≡ at = omega (arith, c.min.ensures, c.requires.curve.some) in
    let fits : FitsSigned w64 c.stressed_rate.result = search rules in
    let kept = narrowed_rate (get_or rates at (pos 0)) (c.requires.curve.limits at (pos 0) (omega (arith, c.requires.curve.some))) in
    let exact : Measures parts c.stressed_rate.result (rate rates c.args.tilt (c.args.place + 1)) = rw (place, kept) at c.stressed_rate.ensures.exact in
    simp to_z-of_z (in_parts_exact c.stressed_rate.result (rate rates c.args.tilt (c.args.place + 1)) exact
    ∙ sym (get_or-map-range_with_len (λ years. in_parts (rate rates c.args.tilt years)) 1 100 c.args.place (c.args.place + 1) d c.requires.place (omega arith)))
