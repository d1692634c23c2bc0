use Rattle.scr_rate.proofs.Costs.{gross_encloses, scenario_encloses, outcomes_enclosed}
use Rattle.scr_rate.proofs.laws.interest_enclosure.Goals as goal

pub returns : goal.returns
returns c = record { gross = gross_encloses; scenario = scenario_encloses; encloses = outcomes_enclosed }
