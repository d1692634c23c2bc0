use Rattle.scr_board.proofs.Standing.{named_once, source_put, source_worked}
use Rattle.scr_board.proofs.laws.order.Goals as goal

pub returns-clause-once : goal.returns-clause-once
returns-clause-once c = λ round workers form. named_once round form workers

pub returns-clause-sources : goal.returns-clause-sources
returns-clause-sources c = λ round workers form. source_put round form workers

pub returns-clause-words : goal.returns-clause-words
returns-clause-words c = λ round workers form. source_worked round form workers
