use Rattle.scr_rules.proofs.MarketCode.{AreCounted}
use Rattle.scr_rules.proofs.market_rules.held_count.Given as goal

abbrev pub invariant-loop-k : goal.invariant-loop-k
invariant-loop-k l = AreCounted l.currency l.sheet.securities l.k l.count
