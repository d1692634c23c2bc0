use Rattle.scr_figure_ids.proofs.WholeOrder.{turn-before}
use Rattle.scr_figure_ids.proofs.laws.whole_order.Goals as goal

pub returns : goal.returns
returns c = turn-before
