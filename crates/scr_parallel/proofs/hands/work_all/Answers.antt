use Rattle.scr_board.proofs.Rows.{all_of, each_of}
use Rattle.scr_parallel.specs.Hands.{HasEnded, IsOpen}
use Rattle.scr_parallel.proofs.hands.work_all.Goals as goal

pub work_each-requires-clause-open : goal.work_each-requires-clause-open
work_each-requires-clause-open g c κs within = all_of (IsOpen c.args.desk.now.board.now c.args.desk.now.pieces.now) c.args.hands.now c.requires.open

pub returns-clause-end : goal.returns-clause-end
returns-clause-end g c =
    each_of
    (HasEnded c.args.desk.now.board.now (g.P.RowPlan.count c.args.desk.now.plan.now) (g.P.RowPlan.is_row c.args.desk.now.plan.now) c.args.desk.now.pieces.now)
    c.work_each.new.hands c.work_each.ensures.end
