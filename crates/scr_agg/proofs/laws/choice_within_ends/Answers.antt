use Rattle.scr_agg.proofs.Bits.{mask_bits, several_bits}
use Rattle.scr_agg.proofs.Enclosed.{chosen_unbeaten, gross_encloses, net_encloses}
use Rattle.scr_agg.proofs.laws.choice_within_ends.Goals as goal

pub returns-clause-unbeaten : goal.returns-clause-unbeaten
returns-clause-unbeaten c = chosen_unbeaten

pub returns-clause-gross : goal.returns-clause-gross
returns-clause-gross c = gross_encloses

pub returns-clause-net : goal.returns-clause-net
returns-clause-net c = net_encloses

pub returns-clause-bits : goal.returns-clause-bits
returns-clause-bits c = mask_bits

pub returns-clause-several : goal.returns-clause-several
returns-clause-several c = several_bits
