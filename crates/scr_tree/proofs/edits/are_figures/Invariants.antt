-- None of those so far is a Block.
use Rattle.std.proofs.Common.{ℕ, ◌≡◌, ◌<◌, Some, slice_get}
use Rattle.scr_block_graph.specs.declared.point.Block.{Block}
use Rattle.scr_block_graph.specs.declared.point.Point.TheVariants as points
use Rattle.scr_tree.proofs.edits.are_figures.Given as goal

abbrev pub invariant-loop-point : goal.invariant-loop-point
invariant-loop-point l = (k : ℕ) (block : Block) → k < l.point-index → slice_get l.touched k ≡ Some (points.Block block) → ⊥
