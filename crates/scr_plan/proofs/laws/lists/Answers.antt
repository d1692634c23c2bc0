use Rattle.scr_plan.proofs.Lists.{after-rolls}
use Rattle.scr_plan.proofs.laws.lists.Goals as goal

pub returns : goal.returns
returns c = after-rolls
