-- One place more is free.
use Rattle.scr_links.proofs.States.{one_freed}
use Rattle.scr_links.proofs.links.free.Goals as goal

pub loop-place-preserved : goal.loop-place-preserved
loop-place-preserved c =
    one_freed c.args.order.now c.loop-place.order c.append.new.self c.args.from c.loop-place.place
    c.loop-place.invariant c.append.ensures
