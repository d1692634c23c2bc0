use Rattle.scr_discounts.proofs.FallRows.{rows-more}
use Rattle.scr_discounts.proofs.discounting.curves_of.Goals as goal

pub loop-k-preserved : goal.loop-k-preserved
loop-k-preserved c =
    rows-more c.loop-k.curves c.push.new.self c.row.result c.args.sheet.now.curves c.loop-k.k c.at.result.now c.in_ok-push.ensures.ok c.row.ensures c.at.ensures c.loop-k.invariant
