use Rattle.scr_plan.proofs.FromSheet.{figure-reached}
use Rattle.scr_plan.proofs.laws.figures.Goals as goal

pub returns : goal.returns
returns c = λ factors edit book kept node. figure-reached factors edit book kept node
