use Rattle.scr_sum_tree.proofs.BlockSizes.{tops-together, sources-together}
use Rattle.scr_sum_tree.proofs.laws.together.Goals as goal

pub returns-clause-tops : goal.returns-clause-tops
returns-clause-tops g c = λ worth member block roll summed most small.
    tops-together worth member block roll summed most small

pub returns-clause-sources : goal.returns-clause-sources
returns-clause-sources g c = λ worth member block roll summed most small level i there.
    sources-together worth member block roll summed most small level i there
