-- One more is made.
use Rattle.scr_made.specs.Made.{segment}
use Rattle.scr_made.proofs.Steps.{appends_none, appends_more}
use Rattle.scr_made.proofs.making.push_segments.Goals as goal

pub loop-k-init : goal.loop-k-init
loop-k-init c = appends_none segment c.args.draws.now.state c.args.out.now.items

pub loop-k-preserved : goal.loop-k-preserved
loop-k-preserved c = appends_more c.loop-k.k segment _ _ _ _ _ _ c.loop-k.invariant c.in_ok-push_segment.ensures
