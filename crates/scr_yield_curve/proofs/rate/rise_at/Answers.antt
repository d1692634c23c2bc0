use Rattle.scr_yield_curve.proofs.StressLemmas.{rise_at, rise_small}
use Rattle.scr_yield_curve.proofs.rate.rise_at.Goals as goal

pub returns-clause-value : goal.returns-clause-value
returns-clause-value c = rise_at c.args.place c.requires

pub returns-clause-share : goal.returns-clause-share
returns-clause-share c = rise_small c.args.place c.requires
