use Rattle.std.proofs.Common.{◌++◌, ap, arith, refl, ◌∙◌}
use Rattle.std.specs.Prelude.{option_to_list}
use Rattle.scr_board.proofs.Delivered.{drawn_next, popped}
use Rattle.scr_board.proofs.Rows.{none_in, popped_none}
use Rattle.scr_board.proofs.worker.Worker.next_node.Goals as goal

pub returns-in-Some-clause-next : goal.returns-in-Some-clause-next
returns-in-Some-clause-next g c =
    popped c.args.self.now.board.now (g.G.Graph.round c.args.self.now.graph.now) c.args.pass.now _ c.in-Some.n c.requires refl refl c.pop.ensures.capacity
    (c.pop.ensures.items ∙ ap (λ o. c.pop.new.self.items ++ option_to_list o) c.in-Some.is)

pub returns-in-None-clause-next : goal.returns-in-None-clause-next
returns-in-None-clause-next g c =
    let none = popped_none c.pop.result _ _ c.in-None.is c.pop.ensures.cases in
    let before = none.0 in
    let after = none.1 in
    let ok = c.args.pass.now.hand.ok in
    let ok_now = c.pop.new.self.ok in
    let room = c.draw.ensures.room in
    let drawn = c.draw.ensures.drawn in
    drawn_next c.args.self.now.board.now (g.G.Graph.round c.args.self.now.graph.now) c.args.pass.now c.draw.new.pass c.requires
    (none_in c.args.pass.now.hand.items (omega (arith, before, ok))) c.draw.ensures.pass
    (ap (λ v. v.items) room.hand ∙ none_in c.pop.new.self.items (omega (arith, after, ok_now))) (ap (λ v. v.cap) room.hand ∙ c.pop.ensures.capacity)
    room.got drawn.0 drawn.1 c.draw.ensures.once c.draw.result drawn.2
