use Rattle.scr_agg.proofs.Chosen.{chosen-is, chosen-unique}
use Rattle.scr_agg.proofs.laws.choice_of_outcomes.Goals as goal

pub returns-clause-one : goal.returns-clause-one
returns-clause-one c = chosen-is

pub returns-clause-only_one : goal.returns-clause-only_one
returns-clause-only_one c = chosen-unique
