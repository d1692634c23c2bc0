use Rattle.scr_nodes.proofs.SingleSources.{sources-once as plain-once}
use Rattle.scr_block_graph.proofs.Lives.{sources-live-in}
use Rattle.scr_block_graph.proofs.Once.{sources-once}
use Rattle.scr_block_graph.proofs.laws.sources.Goals as goal

pub returns : goal.returns
returns c = record {
  live = λ book point source valid rolls live h. sources-live-in book valid rolls point source live h;
  once = λ book point valid rolls. sources-once book rolls (λ node. plain-once book.sheet valid node) point;
}
