use Rattle.std.proofs.Common.{◌≡◌, ap, rules}
use Rattle.scr_num.specs.Rounding.{Ends, ends}
use Rattle.scr_num.proofs.Enclosing.{Encloses-same}
use Rattle.scr_loss.specs.OperationalEnds.{prem_ends}
use Rattle.scr_loss.proofs.OperationalBounds.{prem-encloses}
use Rattle.scr_loss.proofs.operational_risk.prem.Goals as goal

pub returns-clause-encloses : goal.returns-clause-encloses
returns-clause-encloses c =
    let e : ends c.add.result ≡ prem_ends c.args.input.now = search rules in
    Encloses-same 1000 _ _ _ _ _ (ap (λ (x : Ends). x.low) e) (ap (λ (x : Ends). x.high) e) (prem-encloses c.args.input.now)
