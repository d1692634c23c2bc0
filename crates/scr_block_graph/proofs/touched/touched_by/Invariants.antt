use Rattle.std.proofs.Common.{◌≡◌, ◌++◌, drop}
use Rattle.std.specs.Prelude.{flat_map}
use Rattle.scr_block_graph.specs.Books.{rolled_of}
use Rattle.scr_block_graph.specs.Told.{points_of, touched_points}
use Rattle.scr_block_graph.proofs.Have.{HaveFirst}
use Rattle.scr_block_graph.proofs.touched.touched_by.Given as goal

-- what was pushed and what is left to push are all, and what is known of the lists so far
abbrev pub invariant-loop-node : goal.invariant-loop-node
invariant-loop-node l = record {
  list : l.list.items ++ flat_map (points_of l.edit (rolled_of l.book)) (drop l.node-index l.told) ≡ touched_points l.edit (rolled_of l.book) l.told;
  rolls : HaveFirst (rolled_of l.book) l.told l.node-index;
}
