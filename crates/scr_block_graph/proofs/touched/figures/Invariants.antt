use Rattle.std.proofs.Common.{◌≡◌, ◌++◌, drop}
use Rattle.std.specs.Prelude.{flat_map}
use Rattle.scr_block_graph.proofs.Plain.{alone}
use Rattle.scr_block_graph.proofs.touched.figures.Given as goal

-- what was pushed and what is left to push are all
abbrev pub invariant-loop-node : goal.invariant-loop-node
invariant-loop-node l = l.list.items ++ flat_map alone (drop l.node-index l.told) ≡ flat_map alone l.told
