use Rattle.std.proofs.Common.{◌-◌, length}
use Rattle.scr_board.specs.Passes.{progress}
use Rattle.scr_parallel.specs.Hands.{IsAtWork}
use Rattle.scr_parallel.proofs.hands.Desk.work_hand.Given as goal

abbrev pub invariant-loop-n : goal.invariant-loop-n
invariant-loop-n g l =
    IsAtWork l.self.board.now (g.P.RowPlan.count l.self.plan.now) (g.P.RowPlan.is_row l.self.plan.now) l.self.pieces.now l.hand

abbrev pub decreases-loop-n : goal.decreases-loop-n
decreases-loop-n g l = length l.self.pieces.now - length (progress l.hand.pass).put
