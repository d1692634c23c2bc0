use Rattle.scr_num.proofs.Enclosing.{Encloses-overlap, Encloses-wider, Encloses-coarser}
use Rattle.scr_num.proofs.CentAmounts.{enclosing-in_order, Encloses-cents}
use Rattle.scr_num.proofs.laws.enclosures.Goals as goal

pub returns-clause-overlap : goal.returns-clause-overlap
returns-clause-overlap c = Encloses-overlap

pub returns-clause-wider : goal.returns-clause-wider
returns-clause-wider c = Encloses-wider

pub returns-clause-coarser : goal.returns-clause-coarser
returns-clause-coarser c = Encloses-coarser

pub returns-clause-in_order : goal.returns-clause-in_order
returns-clause-in_order c = enclosing-in_order

pub returns-clause-cents : goal.returns-clause-cents
returns-clause-cents c = Encloses-cents
