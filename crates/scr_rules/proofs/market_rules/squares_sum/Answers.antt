use Rattle.scr_rules.proofs.MarketCode.{squares-more}
use Rattle.scr_rules.proofs.market_rules.squares_sum.Goals as goal

pub loop-span-preserved : goal.loop-span-preserved
loop-span-preserved c =
    squares-more c.args.spans.now c.loop-span.sum c.span-item.result c.loop-span.span-index c.loop-span-test.true c.span-item.is c.loop-span.invariant c.add-sum.result c.add-sum.ensures.ends
