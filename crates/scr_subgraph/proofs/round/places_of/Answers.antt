use Rattle.std.proofs.Common.{arith, subst, sym}
use Rattle.scr_reachability.proofs.Ranking.{IsPlacing, placing_next, placing_few}
use Rattle.scr_subgraph.proofs.round.places_of.Goals as goal

pub loop-due-preserved : goal.loop-due-preserved
loop-due-preserved c =
    placing_next c.args.dues.now c.grow.new.self.list c.insert.new.self.list c.loop-due.due-index c.due-item.result
    c.requires (subst (λ list. IsPlacing c.args.dues.now list c.loop-due.due-index) (sym c.grow.ensures.list) c.loop-due.invariant)
    (omega arith) c.due-item.is (omega arith) c.in_ok-insert.ensures.ok

pub returns-clause-few : goal.returns-clause-few
returns-clause-few c =
    placing_few c.args.dues.now c.loop-due.places.list c.loop-due.due-index c.requires (omega arith)
    c.loop-due.invariant
