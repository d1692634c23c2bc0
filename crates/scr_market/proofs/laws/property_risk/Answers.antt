use Rattle.scr_market.proofs.PropertyLemmas.{property-encloses, property-size}
use Rattle.scr_market.proofs.laws.property_risk.Goals as goal

pub returns-clause-encloses : goal.returns-clause-encloses
returns-clause-encloses c = property-encloses

pub returns-clause-size : goal.returns-clause-size
returns-clause-size c = property-size
