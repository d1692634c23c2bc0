-- The topological level of each point of a book's graph (own): each source has a lower level, but for totals of funds, all at
-- level 0. Levels of figures are three apart, with room for two levels of Blocks.
use Rattle.std.specs.Prelude.{ℕ, ◌*◌, ◌-◌}
use Rattle.scr_sum_tree.specs.declared.blocks.Level.{Level}
use Rattle.scr_sum_tree.specs.declared.blocks.Level.TheVariants as levels
use Rattle.scr_nodes.specs.Levels.{level}
use Rattle.scr_block_graph.specs.Sums.{reader_of}
use Rattle.scr_block_graph.specs.declared.point.Point.{Point}
use Rattle.scr_block_graph.specs.declared.point.Point.TheVariants as points
use Rattle.scr_block_graph.specs.declared.sum.Sum.{Sum}

-- The level of a Block: two below its sum's reader on the first level, one below on the second (own).
abbrev pub block_level : Sum → Level → ℕ
block_level sum levels.First = 3 * level (reader_of sum) - 2
block_level sum levels.Second = 3 * level (reader_of sum) - 1

-- The level of a point (own).
abbrev pub level_in : Point → ℕ
level_in (points.Figure node) = 3 * level node
level_in (points.Block block) = block_level block.sum block.level
