use Rattle.scr_counters.proofs.Uses.{moves-more}
use Rattle.scr_counters.proofs.names.NameTally.add_each.Goals as goal

pub loop-name-preserved : goal.loop-name-preserved
loop-name-preserved c =
    moves-more c.args.names.now c.loop-name.name-index c.loop-name-item.result c.args.self.now c.loop-name.self c.add.new.self c.loop-name-test.true c.loop-name-item.is c.loop-name.invariant c.add.ensures
