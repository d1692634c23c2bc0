use Rattle.scr_subgraph.proofs.Entering.{pushed}
use Rattle.scr_subgraph.proofs.round.push_at.Goals as goal

pub returns-clause-pushed : goal.returns-clause-pushed
returns-clause-pushed c =
    pushed c.args.lists.now.rows c.push.new.self.rows c.args.source c.args.place c.requires.source c.push.ensures.rows
