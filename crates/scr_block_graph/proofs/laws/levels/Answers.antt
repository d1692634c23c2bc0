use Rattle.scr_nodes.proofs.Levels.{source-lower}
use Rattle.scr_block_graph.proofs.Falls.{sources-lower}
use Rattle.scr_block_graph.proofs.laws.levels.Goals as goal

pub returns : goal.returns
returns c = λ book point source some h.
    sources-lower book (λ node source some has. source-lower book.sheet node source some has) point source some h
