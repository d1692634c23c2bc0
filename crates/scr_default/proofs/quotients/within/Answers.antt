use Rattle.std.proofs.Common.{◌-◌, ◌*◌, ℕ, ap}
use Rattle.scr_default.specs.VarianceEnds.{within_num, within_den}
use Rattle.scr_default.proofs.quotients.within.Goals as goal

pub returns-clause-num : goal.returns-clause-num
unfolding within_num
returns-clause-num c = ap (λ (p : ℕ). 3 * p) c.dispersion.ensures.value

pub returns-clause-den : goal.returns-clause-den
unfolding within_den
returns-clause-den c = ap (λ (p : ℕ). 100000 * (500000 - 2 * p)) c.probability.ensures.value
