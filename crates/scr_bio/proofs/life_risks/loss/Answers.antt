use Rattle.scr_bio.proofs.BiometricBounds.{loss-encloses}
use Rattle.std.proofs.Common.{ap}
use Rattle.scr_num.specs.Rounding.{Ends, ends}
use Rattle.scr_num.proofs.Enclosing.{Encloses-same}
use Rattle.scr_bio.proofs.life_risks.loss.Goals as goal

pub returns-clause-encloses : goal.returns-clause-encloses
returns-clause-encloses c =
    λ f h. Encloses-same 1000 _ _ _ _ f (ap (λ (x : Ends). x.low) c.scale.ensures.ends) (ap (λ (x : Ends). x.high) c.scale.ensures.ends) (loss-encloses (ends c.args.sum) f h)
