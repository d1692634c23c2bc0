use Rattle.scr_book.proofs.RollLists.{lists-moved, lists-still}
use Rattle.scr_book.proofs.laws.lists.Goals as goal

pub returns-clause-moved : goal.returns-clause-moved
returns-clause-moved c = λ edit old new valid after was is moves keeps. lists-moved edit old new valid after was is moves keeps

pub returns-clause-still : goal.returns-clause-still
returns-clause-still c = λ old new was is same keeps. lists-still old new was is same keeps
