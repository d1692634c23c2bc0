use Rattle.scr_num.specs.Rounding.{ends}
use Rattle.scr_num.proofs.Enclosing.{Encloses-span}
use Rattle.scr_market.specs.SpreadEnds.{spread_ends}
use Rattle.scr_market.proofs.SpreadLemmas.{spread-encloses}
use Rattle.scr_market.proofs.spread_risk.spread.Goals as goal

pub returns-clause-encloses : goal.returns-clause-encloses
returns-clause-encloses c =
    λ f h. Encloses-span 1000 c.scale.result (spread_ends (ends c.args.sum)) f c.scale.ensures.ends
    (spread-encloses (ends c.args.sum) f h)
