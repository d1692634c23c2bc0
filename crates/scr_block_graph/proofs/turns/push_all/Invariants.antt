use Rattle.std.proofs.Common.{◌≡◌, ◌++◌, map}
use Rattle.std.specs.List.{range_with_len}
use Rattle.scr_block_graph.specs.Graph.{block_point}
use Rattle.scr_block_graph.proofs.turns.push_all.Given as goal

-- the first Blocks stand behind what stood there
abbrev pub invariant-loop-index : goal.invariant-loop-index
invariant-loop-index l = l.list.items ≡ l.initial.list.items ++ map (block_point l.turn.sum l.level) (range_with_len 0 l.index)
