use Rattle.scr_discounts.proofs.FallRows.{rows-more}
use Rattle.scr_discounts.proofs.discounting.curves_after.Goals as goal

pub row_after-requires-clause-kept : goal.row_after-requires-clause-kept
row_after-requires-clause-kept c = c.requires.kept c.loop-k.k c.at.result.now c.at.ensures

pub loop-k-preserved : goal.loop-k-preserved
loop-k-preserved c =
    rows-more c.loop-k.curves c.push.new.self c.row_after.result c.args.sheet.now.curves c.loop-k.k c.at.result.now c.in_ok-push.ensures.ok c.row_after.ensures c.at.ensures c.loop-k.invariant
