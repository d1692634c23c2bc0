use Rattle.std.proofs.Common.{◌≡◌, ◌++◌, map, take}
use Rattle.scr_block_graph.specs.Graph.{block_point}
use Rattle.scr_block_graph.specs.Turns.{changed_at}
use Rattle.scr_block_graph.proofs.turns.push_steps.Given as goal

-- the first of those that change stand behind what stood there
abbrev pub invariant-loop-k : goal.invariant-loop-k
invariant-loop-k l = l.list.items ≡ l.initial.list.items ++ map (block_point l.turn.sum l.level) (take l.k (changed_at l.turn.count l.turn.step l.level))
