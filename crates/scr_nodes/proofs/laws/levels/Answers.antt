use Rattle.scr_nodes.proofs.Levels.{source-lower, source-none}
use Rattle.scr_nodes.proofs.laws.levels.Goals as goal

pub returns-clause-lower : goal.returns-clause-lower
returns-clause-lower c = λ sheet node source some has. source-lower sheet node source some has

pub returns-clause-none : goal.returns-clause-none
returns-clause-none c = λ sheet node source none has. source-none sheet node source none has
