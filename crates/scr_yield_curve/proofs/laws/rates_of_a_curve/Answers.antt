use Rattle.scr_yield_curve.proofs.RateLemmas.{rates_are, rates_in_range, length-rates_in_parts}
use Rattle.scr_yield_curve.proofs.laws.rates_of_a_curve.Goals as goal

pub returns : goal.returns
returns c = record { exact = rates_are; in_range = rates_in_range; count = length-rates_in_parts }
