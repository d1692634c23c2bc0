use Rattle.std.proofs.Common.{Some, ap, ◌∙◌}
use Rattle.scr_board.specs.Places.{spot_of}
use Rattle.scr_board.proofs.Delivered.{can_source}
use Rattle.scr_board.proofs.worker.Worker.figure_at.Goals as goal

pub read-requires-clause-may : goal.read-requires-clause-may
read-requires-clause-may g c =
    can_source c.args.self.now.board.now (g.G.Graph.round c.args.self.now.graph.now) c.args.pass.now c.requires.taken.0 c.requires.taken.1 c.in-Node.m
    c.requires.taken.2 (c.requires.taken.3 ∙ ap (λ place. Some (spot_of place)) c.in-Node.is)

pub read-requires-clause-pass : goal.read-requires-clause-pass
read-requires-clause-pass g c = c.requires.taken.2.ready.of_board
