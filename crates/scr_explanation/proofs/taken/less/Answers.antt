use Rattle.std.proofs.Common.{arith}
use Rattle.std.proofs.lemmas.Int.{ints}
use Rattle.scr_explanation.proofs.Together.{same_bounds}
use Rattle.scr_explanation.proofs.taken.less.Goals as goal

pub returns : goal.returns
returns c = same_bounds _ _ _ _ (omega (arith, ints)) (omega (arith, ints))
