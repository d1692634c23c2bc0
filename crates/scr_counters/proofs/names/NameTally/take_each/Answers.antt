use Rattle.scr_counters.proofs.Uses.{moves-less}
use Rattle.scr_counters.proofs.names.NameTally.take_each.Goals as goal

pub loop-name-preserved : goal.loop-name-preserved
loop-name-preserved c =
    moves-less c.args.names.now c.loop-name.name-index c.loop-name-item.result c.args.self.now c.loop-name.self c.take.new.self c.loop-name-test.true c.loop-name-item.is c.loop-name.invariant c.take.ensures.moves
