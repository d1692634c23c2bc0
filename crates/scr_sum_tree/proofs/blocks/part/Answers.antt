use Rattle.std.proofs.Common.{◌+◌, arith}
use Rattle.scr_sum_tree.proofs.PartLemmas.{part-range}
use Rattle.scr_sum_tree.proofs.blocks.part.Goals as goal

pub returns : goal.returns
returns g c = part-range c.args.list.now c.args.index c.min-start.result (c.min-start.result + c.min.result) (omega arith) (omega arith) (omega arith)
