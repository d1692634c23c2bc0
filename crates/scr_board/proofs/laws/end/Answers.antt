use Rattle.scr_board.proofs.Ending.{all_put, count_put, joined_end}
use Rattle.scr_board.proofs.laws.end.Goals as goal

pub returns-clause-each : goal.returns-clause-each
returns-clause-each c = λ round workers form. all_put round form workers

pub returns-clause-count : goal.returns-clause-count
returns-clause-count c = λ round workers form. count_put round form workers

pub returns-clause-join : goal.returns-clause-join
returns-clause-join c = joined_end
