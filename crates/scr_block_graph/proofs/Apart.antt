-- The figures of the members of a sum and its Blocks are told apart, and a figure of a row leads back to the row.
use Rattle.std.proofs.Common.{◌≡◌, ℕ, List, [], ap, arith}
use Rattle.scr_sum_tree.specs.Readers.{AreApart}
use Rattle.scr_sum_tree.specs.declared.blocks.Level.{Level}
use Rattle.scr_sum_tree.specs.declared.blocks.Level.TheVariants as levels
use Rattle.scr_nodes.specs.declared.node.Node.TheVariants as nodes
use Rattle.scr_block_graph.specs.Graph.{block_point, member_point}
use Rattle.scr_block_graph.specs.declared.point.Point.{Point}
use Rattle.scr_block_graph.specs.declared.point.Point.TheVariants as points
use Rattle.scr_block_graph.specs.declared.sum.Sum.{Sum}
use Rattle.scr_block_graph.specs.declared.sum.Sum.TheVariants as sums

-- the name of a figure's row
abbrev name_in : Point → List ℕ
name_in (points.Figure (nodes.Fund name what)) = name
name_in (points.Figure (nodes.Security name what)) = name
name_in (points.Figure (nodes.Liability name what)) = name
name_in (points.Figure (nodes.Group name what)) = name
name_in point = []

-- the number of a Block on its level
abbrev index_in : Point → ℕ
index_in (points.Block block) = block.index
index_in (points.Figure node) = 0

abbrev level_number : Level → ℕ
level_number levels.First = 1
level_number levels.Second = 2

-- a figure, a Block of the first level, or one of the second
abbrev kind_in : Point → ℕ
kind_in (points.Block block) = level_number block.level
kind_in (points.Figure node) = 0

pub members-apart : (sum : Sum) (a b : List ℕ) → member_point sum a ≡ member_point sum b → a ≡ b
members-apart (sums.Class class) a b e = ap name_in e
members-apart sums.Closed a b e = ap name_in e
members-apart sums.Spreads a b e = ap name_in e
members-apart sums.Grouped a b e = ap name_in e
members-apart (sums.Group name) a b e = ap name_in e
members-apart (sums.Assets currency) a b e = ap name_in e
members-apart (sums.Rates currency direction) a b e = ap name_in e
members-apart (sums.Costs currency direction) a b e = ap name_in e
members-apart (sums.Presents currency) a b e = ap name_in e
members-apart (sums.Losses biometric projection) a b e = ap name_in e
members-apart sums.Squares a b e = ap name_in e

no-block : (sum : Sum) (a : List ℕ) (level : Level) (i : ℕ) → member_point sum a ≡ block_point sum level i → ⊥
no-block sum a levels.First i e = let never = ap kind_in e in omega (arith, never)
no-block sum a levels.Second i e = let never = ap kind_in e in omega (arith, never)

pub points-apart : (sum : Sum) → AreApart (member_point sum) (block_point sum)
points-apart sum = record {
  members = members-apart sum;
  firsts = λ i j e. ap index_in e;
  seconds = λ i j e. ap index_in e;
  apart = λ i j e. let never = ap kind_in e in omega (arith, never);
  others = no-block sum;
}
