use Rattle.scr_market.proofs.EquityBounds.{type1-encloses, type2-encloses, infra-encloses, infracorp-encloses}
use Rattle.scr_market.proofs.EquityBounds.{root-encloses, equity-encloses}
use Rattle.scr_market.proofs.laws.equity_enclosure.Goals as goal

pub returns-clause-type1 : goal.returns-clause-type1
returns-clause-type1 c = type1-encloses

pub returns-clause-type2 : goal.returns-clause-type2
returns-clause-type2 c = type2-encloses

pub returns-clause-infra : goal.returns-clause-infra
returns-clause-infra c = infra-encloses

pub returns-clause-infracorp : goal.returns-clause-infracorp
returns-clause-infracorp c = infracorp-encloses

pub returns-clause-root : goal.returns-clause-root
returns-clause-root c = root-encloses

pub returns-clause-all : goal.returns-clause-all
returns-clause-all c = equity-encloses
