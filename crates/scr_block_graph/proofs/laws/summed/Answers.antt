use Rattle.scr_block_graph.proofs.Listed.{sources-listed}
use Rattle.scr_block_graph.proofs.laws.summed.Goals as goal

pub returns : goal.returns
returns c = sources-listed
