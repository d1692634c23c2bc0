use Rattle.scr_market.proofs.EquityBounds.{type1-size, type2-size, infra-size, infracorp-size, root-size, equity-size}
use Rattle.scr_market.proofs.laws.equity_size.Goals as goal

pub returns-clause-type1 : goal.returns-clause-type1
returns-clause-type1 c = λ cents strategic sym h k least most. type1-size sym least most cents strategic h k

pub returns-clause-type2 : goal.returns-clause-type2
returns-clause-type2 c = λ cents strategic sym h k least most. type2-size sym least most cents strategic h k

pub returns-clause-infra : goal.returns-clause-infra
returns-clause-infra c = λ cents sym h least most. infra-size sym least most cents h

pub returns-clause-infracorp : goal.returns-clause-infracorp
returns-clause-infracorp c = λ cents sym h least most. infracorp-size sym least most cents h

pub returns-clause-root : goal.returns-clause-root
returns-clause-root c = root-size

pub returns-clause-all : goal.returns-clause-all
returns-clause-all c = equity-size
