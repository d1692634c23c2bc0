use Rattle.scr_block_graph.proofs.Worth.{any-summed, ends-summed}
use Rattle.scr_block_graph.proofs.laws.figures.Goals as goal

pub returns : goal.returns
returns c = record { ends = ends-summed; any = any-summed }
