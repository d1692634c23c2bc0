use Rattle.std.proofs.Common.{◌≡◌, ◌+◌, length}
use Rattle.std.specs.List.{AllByRecursion}
use Rattle.scr_parallel.specs.Hands.{AreSorted, HasEnded}
use Rattle.scr_parallel.proofs.hands.parts_of.Given as goal

-- what was sorted, and the hands that are left
abbrev pub invariant-loop-hand : goal.invariant-loop-hand
invariant-loop-hand g l = record {
  sorted : AreSorted l.board (g.P.RowPlan.count l._plan) (g.P.RowPlan.is_row l._plan) l.pieces l.passes.items l.parts.items;
  left : AllByRecursion (HasEnded l.board (g.P.RowPlan.count l._plan) (g.P.RowPlan.is_row l._plan) l.pieces) l.hands.items;
  count : length l.hands.items + length l.passes.items ≡ l.board.workers;
}

abbrev pub decreases-loop-hand : goal.decreases-loop-hand
decreases-loop-hand g l = length l.hands.items
