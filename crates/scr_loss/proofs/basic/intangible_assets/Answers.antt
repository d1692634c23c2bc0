use Rattle.std.proofs.Common.{arith}
use Rattle.std.proofs.lemmas.Int.{ints}
use Rattle.scr_num.proofs.Enclosing.{Encloses-same}
use Rattle.scr_loss.proofs.BscrBounds.{intangible-encloses}
use Rattle.scr_loss.proofs.basic.intangible_assets.Goals as goal

pub returns-clause-encloses : goal.returns-clause-encloses
returns-clause-encloses c =
    Encloses-same 1000 _ _ _ _ _ (omega (arith, ints)) (omega (arith, ints)) (intangible-encloses c.args.cents)
