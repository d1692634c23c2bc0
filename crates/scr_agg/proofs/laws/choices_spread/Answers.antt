use Rattle.scr_agg.proofs.ChoiceWidths.{narrow-chosen_net, narrow-chosen_gross, open_choice}
use Rattle.scr_agg.proofs.laws.choices_spread.Goals as goal

pub returns-clause-net : goal.returns-clause-net
returns-clause-net c = narrow-chosen_net

pub returns-clause-gross : goal.returns-clause-gross
returns-clause-gross c = narrow-chosen_gross

pub returns-clause-gap : goal.returns-clause-gap
returns-clause-gap c = open_choice
