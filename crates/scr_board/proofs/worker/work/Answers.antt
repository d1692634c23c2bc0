use Rattle.scr_board.specs.Working.{IsDone, IsFresh}
use Rattle.scr_board.proofs.Rows.{all_of, each_of}
use Rattle.scr_board.proofs.worker.work.Goals as goal

pub work_each-requires-clause-fresh : goal.work_each-requires-clause-fresh
work_each-requires-clause-fresh g c = λ lifetimes outlived.
    all_of (IsFresh c.args.board.now (g.G.Graph.round c.args.graph.now)) c.args.passes.now c.requires.fresh

pub returns-clause-end : goal.returns-clause-end
returns-clause-end g c = each_of (IsDone c.args.board.now (g.G.Graph.round c.args.graph.now)) c.work_each.new.passes c.work_each.ensures.end
