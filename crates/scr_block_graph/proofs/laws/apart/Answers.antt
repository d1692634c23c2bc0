use Rattle.scr_block_graph.proofs.Apart.{points-apart}
use Rattle.scr_block_graph.proofs.laws.apart.Goals as goal

pub returns : goal.returns
returns c = points-apart
