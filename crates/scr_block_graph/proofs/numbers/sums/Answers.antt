use Rattle.scr_block_graph.proofs.SumsAt.{at-own, only-own}
use Rattle.scr_block_graph.proofs.numbers.sums.Goals as goal

pub returns-clause-there : goal.returns-clause-there
returns-clause-there c = at-own

pub returns-clause-only : goal.returns-clause-only
returns-clause-only c = only-own
