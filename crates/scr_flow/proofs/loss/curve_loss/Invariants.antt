use Rattle.std.proofs.Common.{map}
use Rattle.scr_num.specs.Rounding.{ends}
use Rattle.scr_yield_curve.specs.Parts.{rates_in_parts}
use Rattle.scr_yield_curve.specs.declared.tilt.Tilt.TheVariants as tilts
use Rattle.scr_yield_curve.specs.Falls.{differences}
use Rattle.scr_flow.proofs.SumLemmas.{IsSumBefore}
use Rattle.scr_flow.proofs.loss.curve_loss.Given as goal

abbrev pub invariant-loop-i : goal.invariant-loop-i
invariant-loop-i l =
    IsSumBefore l.i l.flows (differences (rates_in_parts l.rates tilts.Base) (map ends l.from.at) (rates_in_parts l.rates l.tilt) (map ends l.to.at)) (ends l.sum)
