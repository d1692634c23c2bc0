use Rattle.scr_yield_curve.proofs.StressLemmas.{fall_at, fall_small}
use Rattle.scr_yield_curve.proofs.rate.fall_at.Goals as goal

pub returns-clause-value : goal.returns-clause-value
returns-clause-value c = fall_at c.args.place c.requires

pub returns-clause-share : goal.returns-clause-share
returns-clause-share c = fall_small c.args.place c.requires
