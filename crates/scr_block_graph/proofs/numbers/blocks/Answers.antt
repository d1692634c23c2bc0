use Rattle.scr_block_graph.proofs.BlockNumbers.{block-exact, block-lives, block-only, block-within}
use Rattle.scr_block_graph.proofs.numbers.blocks.Goals as goal

pub returns-clause-live : goal.returns-clause-live
returns-clause-live c = block-lives

pub returns-clause-only : goal.returns-clause-only
returns-clause-only c = block-only

pub returns-clause-exact : goal.returns-clause-exact
returns-clause-exact c = block-exact

pub returns-clause-within : goal.returns-clause-within
returns-clause-within c = block-within
