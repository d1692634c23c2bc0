use Rattle.scr_nodes.proofs.Numbers.{whole-at}
use Rattle.scr_nodes.proofs.laws.numbers.Goals as goal

pub returns : goal.returns
returns c = λ sheet what live. whole-at what live
