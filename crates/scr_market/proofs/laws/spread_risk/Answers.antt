use Rattle.scr_market.proofs.SpreadLemmas.{stress-measured, bond-encloses, bond-size, spread-encloses, spread-size}
use Rattle.scr_market.proofs.laws.spread_risk.Goals as goal

pub returns-clause-stress : goal.returns-clause-stress
returns-clause-stress c = stress-measured

pub returns-clause-bond : goal.returns-clause-bond
returns-clause-bond c = bond-encloses

pub returns-clause-bond_size : goal.returns-clause-bond_size
returns-clause-bond_size c = bond-size

pub returns-clause-sum : goal.returns-clause-sum
returns-clause-sum c = spread-encloses

pub returns-clause-sum_size : goal.returns-clause-sum_size
returns-clause-sum_size c = spread-size
