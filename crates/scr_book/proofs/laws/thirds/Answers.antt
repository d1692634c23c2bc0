use Rattle.scr_book.proofs.Examples.{of-class, of-currency, of-groups}
use Rattle.scr_book.proofs.laws.thirds.Goals as goal

pub returns-clause-class : goal.returns-clause-class
returns-clause-class c = of-class

pub returns-clause-currency : goal.returns-clause-currency
returns-clause-currency c = of-currency

pub returns-clause-groups : goal.returns-clause-groups
returns-clause-groups c = of-groups
