use Rattle.std.proofs.Common.{arith}
use Rattle.std.specs.Prelude.{map}
use Rattle.scr_num.specs.Rounding.{ends}
use Rattle.scr_parallel.specs.DueForming.{places-count}
use Rattle.scr_parallel.proofs.Slotted.{given-sources}
use Rattle.scr_parallel.proofs.due_graph.DueGraphGraph.rule.Goals as goal

pub rule-requires-clause-below : goal.rule-requires-clause-below
rule-requires-clause-below g c =
    let worked = g.P.Plan.worked c.args.self.now.plan.now in
    let known = g.P.Plan.is_known c.args.self.now.plan.now in
    let due = g.P.Plan.is_due c.args.self.now.plan.now in
    let count = places-count worked known due c.args.self.now.dues.now c.args.self.now.round.now c.requires.graph in
    let node = c.requires.node in
    given-sources worked known due c.args.self.now.dues.now c.args.self.now.round.now c.requires.graph c.args.n c.index-self-n.result
    (map ends c.args.got.now) (omega (arith, count, node)) c.requires.got
