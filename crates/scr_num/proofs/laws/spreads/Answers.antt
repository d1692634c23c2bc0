use Rattle.scr_num.proofs.Spreads.{narrow-wider, narrow-exact, narrow-add, narrow-sub, narrow-sum, narrow-total, narrow-max, narrow-min, narrow-quotient, narrow-scale, narrow-ratio, narrow-times, narrow-product, narrow-root}
use Rattle.scr_num.proofs.laws.spreads.Goals as goal

pub returns-clause-wider : goal.returns-clause-wider
returns-clause-wider c = narrow-wider

pub returns-clause-exact : goal.returns-clause-exact
returns-clause-exact c = narrow-exact

pub returns-clause-sum : goal.returns-clause-sum
returns-clause-sum c = narrow-add

pub returns-clause-difference : goal.returns-clause-difference
returns-clause-difference c = narrow-sub

pub returns-clause-sums : goal.returns-clause-sums
returns-clause-sums c = narrow-sum

pub returns-clause-total : goal.returns-clause-total
returns-clause-total c = narrow-total

pub returns-clause-greater : goal.returns-clause-greater
returns-clause-greater c = narrow-max

pub returns-clause-smaller : goal.returns-clause-smaller
returns-clause-smaller c = narrow-min

pub returns-clause-quotient : goal.returns-clause-quotient
returns-clause-quotient c = narrow-quotient

pub returns-clause-share : goal.returns-clause-share
returns-clause-share c = narrow-scale

pub returns-clause-ratio : goal.returns-clause-ratio
returns-clause-ratio c = narrow-ratio

pub returns-clause-multiple : goal.returns-clause-multiple
returns-clause-multiple c = narrow-times

pub returns-clause-product : goal.returns-clause-product
returns-clause-product c = narrow-product

pub returns-clause-root : goal.returns-clause-root
returns-clause-root c = narrow-root
