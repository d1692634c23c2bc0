use Rattle.std.proofs.Common.{◌≡◌, ap, rules}
use Rattle.scr_num.specs.Rounding.{Ends, ends}
use Rattle.scr_num.proofs.Enclosing.{Encloses-same}
use Rattle.scr_loss.specs.OperationalEnds.{op_ends}
use Rattle.scr_loss.proofs.OperationalBounds.{op-encloses}
use Rattle.scr_loss.proofs.operational_risk.op.Goals as goal

pub returns-clause-encloses : goal.returns-clause-encloses
returns-clause-encloses c =
    let e : ends c.add.result ≡ op_ends (ends c.args.cap) (ends c.args.prem) (ends c.args.prov) c.args.expul = search rules in
    λ f g h in_cap in_prem in_prov. Encloses-same 1000 _ _ _ _ _ (ap (λ (x : Ends). x.low) e) (ap (λ (x : Ends). x.high) e)
    (op-encloses (ends c.args.cap) (ends c.args.prem) (ends c.args.prov) f g h c.args.expul in_cap in_prem in_prov)
