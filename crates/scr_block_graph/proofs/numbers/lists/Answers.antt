use Rattle.scr_block_graph.proofs.ListNumbers.{lists-apart}
use Rattle.scr_block_graph.proofs.numbers.lists.Goals as goal

pub returns : goal.returns
returns c = lists-apart
