use Rattle.scr_plan.proofs.Under.{by-sources}
use Rattle.scr_plan.proofs.laws.sources.Goals as goal

pub returns : goal.returns
returns c = by-sources
