use Rattle.scr_tree.proofs.MarkedMore.{none-found, ok-then, some-marked}
use Rattle.scr_tree.proofs.graph.mark_some.Goals as goal

pub returns-in-Some-clause-marked : goal.returns-in-Some-clause-marked
returns-in-Some-clause-marked c =
    ok-then c.insert.result c.insert.ensures.ok
    (some-marked c.args.number c.in-Some.number c.in-Some.is c.args.marks.now.list c.insert.new.self.list)

pub returns-in-None-clause-marked : goal.returns-in-None-clause-marked
returns-in-None-clause-marked c = none-found c.args.number c.in-None.is c.args.marks.now.list
