use Rattle.scr_block_graph.proofs.BlockNumbers.{block-kept}
use Rattle.scr_block_graph.proofs.numbers.kept.Goals as goal

pub returns : goal.returns
returns c = block-kept
