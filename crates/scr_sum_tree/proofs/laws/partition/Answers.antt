use Rattle.scr_sum_tree.proofs.Partition.{own-block, spans-place, nested-blocks, all-below}
use Rattle.scr_sum_tree.proofs.laws.partition.Goals as goal

pub returns-clause-own : goal.returns-clause-own
returns-clause-own g c = own-block

pub returns-clause-spans : goal.returns-clause-spans
returns-clause-spans g c = spans-place

pub returns-clause-nested : goal.returns-clause-nested
returns-clause-nested g c = nested-blocks

pub returns-clause-all : goal.returns-clause-all
returns-clause-all g c = all-below
