use Rattle.scr_block_graph.proofs.Few.{few-touched}
use Rattle.scr_block_graph.proofs.laws.few.Goals as goal

pub returns : goal.returns
returns c = λ factors edit book valid now rolls later blocks once touched pairs all.
    few-touched edit book rolls later valid now factors blocks once touched pairs all
