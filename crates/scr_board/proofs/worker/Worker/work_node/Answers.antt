use Rattle.std.proofs.Common.{Some, ap, map, sym, ◌∙◌}
use Rattle.scr_num.specs.Rounding.{ends}
use Rattle.scr_board.proofs.Delivered.{put_then, taken_node}
use Rattle.scr_board.proofs.worker.Worker.work_node.Goals as goal

pub rule-span-requires-clause-node : goal.rule-span-requires-clause-node
rule-span-requires-clause-node g c =
    taken_node c.args.self.now.board.now (g.G.Graph.round c.args.self.now.graph.now) c.args.pass.now c.args.n c.requires.taken

pub put-requires-clause-worked : goal.put-requires-clause-worked
put-requires-clause-worked g c =
    let node = taken_node c.args.self.now.board.now (g.G.Graph.round c.args.self.now.graph.now) c.args.pass.now c.args.n c.requires.taken in
    let worked = g.met.G.Graph.worked c.args.self.now.graph.now c.requires.graph c.args.n (map ends c.gather.new.pass.got.items) node c.gather.ensures.got in (
      g.G.Graph.round c.args.self.now.graph.now,
      c.gather.ensures.taken.ready.lists,
      worked ∙ ap Some (ap (λ xs. g.G.Graph.rule_of c.args.self.now.graph.now c.args.n (map ends xs)) (sym c.as_slice.ensures.value) ∙ sym c.rule-span.ensures.rule),
    )

pub deliver_all-requires : goal.deliver_all-requires
deliver_all-requires g c =
    put_then c.args.self.now.board.now (g.G.Graph.round c.args.self.now.graph.now) c.gather.new.pass c.put.new.pass c.args.n c.gather.ensures.taken c.put.ensures.pass
    c.put.ensures.room c.put.ensures.put c.put.ensures.once
