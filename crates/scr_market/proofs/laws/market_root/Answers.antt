use Rattle.scr_market.proofs.MarketLemmas.{market-encloses, market-size}
use Rattle.scr_market.proofs.laws.market_root.Goals as goal

pub returns-clause-encloses : goal.returns-clause-encloses
returns-clause-encloses c = λ parts figures mask decisive six h least most place set. market-encloses parts figures six
    h mask decisive least most place set

pub returns-clause-size : goal.returns-clause-size
returns-clause-size c = market-size
