use Rattle.scr_num.proofs.AddedEnds.{same_ends}
use Rattle.scr_num.proofs.Enclosing.{Encloses-same}
use Rattle.scr_num.proofs.Shares.{ratio-is, ratio-at_most_one, Encloses-ratio}
use Rattle.scr_num.proofs.quotient.ratio.Goals as goal

pub returns-clause-ends : goal.returns-clause-ends
returns-clause-ends c =
    let is = ratio-is c.args.num c.args.den _ _ _ c.requires.positive c.between.ensures.low c.between.ensures.high c.div_ceil.ensures in
    same_ends _ _ _ _ is.0 is.1

pub returns-clause-encloses : goal.returns-clause-encloses
returns-clause-encloses c =
    let is = ratio-is c.args.num c.args.den _ _ _ c.requires.positive c.between.ensures.low c.between.ensures.high c.div_ceil.ensures in
    λ positive. Encloses-same _ _ _ _ _ _ is.0 is.1 (Encloses-ratio c.args.num c.args.den positive)

pub returns-clause-at_most_one : goal.returns-clause-at_most_one
returns-clause-at_most_one c =
    let is = ratio-is c.args.num c.args.den _ _ _ c.requires.positive c.between.ensures.low c.between.ensures.high c.div_ceil.ensures in
    rw is.1 (ratio-at_most_one c.args.num c.args.den c.requires.positive c.requires.proper)
