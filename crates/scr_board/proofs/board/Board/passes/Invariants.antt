use Rattle.std.proofs.Common.{◌-◌, ◌<◌, length}
use Rattle.std.specs.List.{AllByRecursion}
use Rattle.scr_board.specs.Making.{IsUnused}
use Rattle.scr_board.specs.Working.{IsFresh}
use Rattle.scr_board.proofs.board.Board.passes.Given as goal

-- the seat has the share of the workers that have no pass yet
abbrev pub invariant-loop-seat : goal.invariant-loop-seat
invariant-loop-seat g l = record {
  few : length l.passes.items < l.self.workers;
  seat : IsUnused l.self (g.G.Graph.round l.graph) (l.self.workers - length l.passes.items) l.seat;
  fresh : AllByRecursion (IsFresh l.self (g.G.Graph.round l.graph)) l.passes.items;
}

abbrev pub decreases-loop-seat : goal.decreases-loop-seat
decreases-loop-seat g l = l.self.workers - length l.passes.items
