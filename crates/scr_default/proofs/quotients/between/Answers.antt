use Rattle.std.proofs.Common.{◌+◌, ◌-◌, ◌*◌, ap₂, ℕ}
use Rattle.scr_default.specs.VarianceEnds.{between_num, between_den}
use Rattle.scr_default.proofs.quotients.between.Goals as goal

pub returns-clause-num : goal.returns-clause-num
unfolding between_num
returns-clause-num c = ap₂ (λ (p : ℕ) (q : ℕ). 4 * p * q) c.dispersion.ensures.value c.dispersion-2.ensures.value

pub returns-clause-den : goal.returns-clause-den
unfolding between_den
returns-clause-den c =
    ap₂ (λ (p : ℕ) (q : ℕ). 10000000000 * (500000 * (p + q) - 4 * p * q)) c.probability-p.ensures.value
    c.probability-q.ensures.value
