-- The readers of a member of a large sum, and of a Block under it (own): the edges of the graph backwards.
use Rattle.std.specs.Prelude.{◌≡◌, ◌⊎◌, ℕ, true, List, Some, is_some, length, slice_get}
use Rattle.scr_sum_tree.specs.Blocks.{is_block}
use Rattle.scr_sum_tree.specs.Readers.{reader_of_block, reader_of_member}
use Rattle.scr_sum_tree.specs.declared.blocks.Level.{Level}
use Rattle.scr_sum_tree.specs.declared.readers.Reader.{Reader}
use Rattle.scr_sum_tree.specs.declared.readers.Reader.TheVariants as readers
use Rattle.scr_block_graph.specs.Graph.{Rolled, block_point, member_point, roll_in}
use Rattle.scr_block_graph.specs.Sums.{first_sum, second_sum}
use Rattle.scr_block_graph.specs.declared.point.Point.{Point}
use Rattle.scr_block_graph.specs.declared.point.Point.TheVariants as points
use Rattle.scr_block_graph.specs.declared.sum.Sum.{Sum}

-- The point is this reader of the sum: a figure computed from it, or the Block (own).
abbrev pub IsReading : Sum → Reader → Point → Type 0
IsReading sum readers.Whole (points.Figure node) = (first_sum node ≡ Some sum) ⊎ (second_sum node ≡ Some sum)
IsReading sum readers.Whole (points.Block block) = ⊥
IsReading sum (readers.Block level i) (points.Figure node) = ⊥
IsReading sum (readers.Block level i) (points.Block block) = block ≡ record { sum = sum; level = level; index = i }

-- The source is the figure of a member of the sum, and the point is that member's reader (own).
pub record ReadsMember (book : Rolled) (sum : Sum) (point source : Point) : Type 0 where
  pub place : ℕ
  pub name : List ℕ
  pub at : slice_get (roll_in book sum) place ≡ Some name
  pub is : member_point sum name ≡ source
  pub reads : IsReading sum (reader_of_member (length (roll_in book sum)) place) point

-- The source is a Block under the sum, and the point is that Block's reader (own).
pub record ReadsBlock (book : Rolled) (sum : Sum) (point source : Point) : Type 0 where
  pub level : Level
  pub index : ℕ
  pub there : is_block (length (roll_in book sum)) level index ≡ true
  pub is : block_point sum level index ≡ source
  pub reads : IsReading sum (reader_of_block (length (roll_in book sum)) level index) point

-- The point is a Block, or a figure computed from large sums (own).
abbrev pub IsSummed : Point → Type 0
IsSummed (points.Figure node) = is_some (first_sum node) ≡ true
IsSummed (points.Block block) = Unit {0}
