use Rattle.scr_tree.proofs.MarkedMore.{ok-then, test-marked}
use Rattle.scr_tree.proofs.graph.mark_if.Goals as goal

pub returns-then-test-clause-marked : goal.returns-then-test-clause-marked
returns-then-test-clause-marked c =
    ok-then c.insert.result c.insert.ensures.ok
    (test-marked c.args.test c.if-test.true c.args.number c.args.marks.now.list c.insert.new.self.list)
