use Rattle.scr_sum_tree.proofs.Partition.{blocks-fewer, is_block-numbered}
use Rattle.scr_sum_tree.proofs.TopChanges.{sources-some, length-tops, top_count-le}
use Rattle.scr_sum_tree.proofs.laws.sizes.Goals as goal

pub returns-clause-numbered : goal.returns-clause-numbered
returns-clause-numbered g c = is_block-numbered

pub returns-clause-sources : goal.returns-clause-sources
returns-clause-sources g c = sources-some

pub returns-clause-tops : goal.returns-clause-tops
returns-clause-tops g c = length-tops

pub returns-clause-few : goal.returns-clause-few
returns-clause-few g c = top_count-le

pub returns-clause-fewer : goal.returns-clause-fewer
returns-clause-fewer g c = blocks-fewer
