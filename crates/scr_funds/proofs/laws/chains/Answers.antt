use Rattle.scr_funds.proofs.Cycles.{one_first_shortest}
use Rattle.scr_funds.proofs.Rows.{cycle_by_members}
use Rattle.scr_funds.proofs.laws.chains.Goals as goal

pub returns-clause-cycle : goal.returns-clause-cycle
returns-clause-cycle c = cycle_by_members

pub returns-clause-single : goal.returns-clause-single
returns-clause-single c = one_first_shortest
