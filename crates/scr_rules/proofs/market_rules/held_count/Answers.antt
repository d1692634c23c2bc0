use Rattle.std.proofs.Common.{sym, ◌∙◌}
use Rattle.scr_rules.proofs.MarketCode.{counted-one, counted-none}
use Rattle.scr_rules.proofs.market_rules.held_count.Goals as goal
use Rattle.scr_rules.proofs.market_rules.held_count.Goals.{then-is_held_in, else-is_held_in}

pub loop-k-preserved : goal.loop-k-preserved
loop-k-preserved c =
    let currency = c.args.currency.now in
    let rows = c.args.sheet.now.securities in
    elim c.if-is_held_in.branch [
      | then-is_held_in w ↦ rw w.count-is (counted-one currency rows c.loop-k.k c.loop-k.count c.at.result.now c.at.ensures c.loop-k.invariant (sym c.is_held_in.ensures ∙ w.if-is_held_in.true))
      | else-is_held_in w ↦ rw w.count-is (counted-none currency rows c.loop-k.k c.loop-k.count c.at.result.now c.at.ensures c.loop-k.invariant (sym c.is_held_in.ensures ∙ w.if-is_held_in.false))
    ]
