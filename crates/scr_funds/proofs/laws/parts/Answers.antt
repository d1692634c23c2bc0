use Rattle.scr_funds.proofs.Shares.{first_parts-none, first_parts-step, first_parts-all}
use Rattle.scr_funds.proofs.laws.parts.Goals as goal

pub returns-clause-none : goal.returns-clause-none
returns-clause-none c = first_parts-none

pub returns-clause-step : goal.returns-clause-step
returns-clause-step c = first_parts-step

pub returns-clause-all : goal.returns-clause-all
returns-clause-all c = first_parts-all
