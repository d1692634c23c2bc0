use Rattle.scr_block_graph.proofs.Untouched.{untouched-same}
use Rattle.scr_block_graph.proofs.laws.untouched.Goals as goal

pub returns : goal.returns
returns c = untouched-same
