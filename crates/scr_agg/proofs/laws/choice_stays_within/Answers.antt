use Rattle.scr_agg.proofs.Hulls.{chosen_gross-within, chosen_net-within}
use Rattle.scr_agg.proofs.ChosenAmounts.{amount-chosen_gross, amount-chosen_net}
use Rattle.scr_agg.proofs.laws.choice_stays_within.Goals as goal

pub returns-clause-gross : goal.returns-clause-gross
returns-clause-gross c = chosen_gross-within

pub returns-clause-net : goal.returns-clause-net
returns-clause-net c = chosen_net-within

pub returns-clause-gross_size : goal.returns-clause-gross_size
returns-clause-gross_size c = amount-chosen_gross

pub returns-clause-net_size : goal.returns-clause-net_size
returns-clause-net_size c = amount-chosen_net
