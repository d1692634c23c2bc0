use Rattle.scr_block_graph.proofs.ReadSums.{summed-read}
use Rattle.scr_block_graph.proofs.laws.readers.Goals as goal

pub returns : goal.returns
returns c = summed-read
