use Rattle.scr_plan.proofs.Under.{under-reached}
use Rattle.scr_plan.proofs.laws.blocks.Goals as goal

pub returns : goal.returns
returns c = λ factors edit book kept block. under-reached factors edit book kept block
