use Rattle.scr_rules.proofs.MarketCode.{AreSquaresSummed}
use Rattle.scr_rules.proofs.market_rules.squares_sum.Given as goal

abbrev pub invariant-loop-span : goal.invariant-loop-span
invariant-loop-span l = AreSquaresSummed l.spans l.sum l.span-index
