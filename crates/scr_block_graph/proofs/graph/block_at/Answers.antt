use Rattle.std.proofs.Common.{sym}
use Rattle.scr_block_graph.specs.Graph.{block_point}
use Rattle.scr_block_graph.proofs.Placed.{range-past, range-there}
use Rattle.scr_block_graph.proofs.graph.block_at.Goals as goal

pub returns-then-index-count : goal.returns-then-index-count
returns-then-index-count c = sym (range-there (block_point c.args.sum.now c.args.level) c.args.count c.args.index c.if-index-count.true)

pub returns-else-index-count : goal.returns-else-index-count
returns-else-index-count c = sym (range-past (block_point c.args.sum.now c.args.level) c.args.count c.args.index c.if-index-count.false)
