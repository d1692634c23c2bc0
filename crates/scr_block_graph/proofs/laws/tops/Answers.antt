use Rattle.scr_block_graph.proofs.Worth.{ends-tops, any-tops}
use Rattle.scr_block_graph.proofs.laws.tops.Goals as goal

pub returns : goal.returns
returns c = record { ends = ends-tops; any = any-tops }
