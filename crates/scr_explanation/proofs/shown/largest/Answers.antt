use Rattle.scr_explanation.specs.Told.{is_among_largest}
use Rattle.scr_explanation.proofs.LiveSources.{fewer_so_far}
use Rattle.scr_explanation.proofs.shown.largest.Goals as goal

pub returns-clause-fewer : goal.returns-clause-fewer
returns-clause-fewer c =
    fewer_so_far (is_among_largest c.args.engine.now.factors c.args.engine.now.sheet c.args.top c.args.sources.now)
    c.args.sources.now c.loop-node.told.items c.loop-node.node-index c.loop-node.invariant
