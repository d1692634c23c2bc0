use Rattle.std.proofs.Common.{◌≡◌, ap, rules}
use Rattle.scr_num.specs.Rounding.{Ends, ends}
use Rattle.scr_num.proofs.Enclosing.{Encloses-same}
use Rattle.scr_loss.specs.AbsorptionEnds.{adj_dt_ends}
use Rattle.scr_loss.proofs.AdjustmentBounds.{adj_dt-encloses}
use Rattle.scr_loss.proofs.adjustments.adj_dt.Goals as goal

pub returns-clause-encloses : goal.returns-clause-encloses
returns-clause-encloses c =
    let e : ends c.sub.result ≡ adj_dt_ends (ends c.args.bscr) (ends c.args.tp) (ends c.args.op) c.args.rate c.args.cap = search rules in
    λ f g h in_bscr in_tp in_op. Encloses-same 1000 _ _ _ _ _ (ap (λ (x : Ends). x.low) e) (ap (λ (x : Ends). x.high) e)
    (adj_dt-encloses (ends c.args.bscr) (ends c.args.tp) (ends c.args.op) f g h c.args.rate c.args.cap in_bscr in_tp in_op)
