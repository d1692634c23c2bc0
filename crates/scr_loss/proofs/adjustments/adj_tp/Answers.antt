use Rattle.std.proofs.Common.{◌≡◌, ap, rules}
use Rattle.scr_num.specs.Rounding.{Ends, ends}
use Rattle.scr_num.proofs.Enclosing.{Encloses-same}
use Rattle.scr_loss.specs.AbsorptionEnds.{adj_tp_ends}
use Rattle.scr_loss.proofs.AdjustmentBounds.{adj_tp-encloses}
use Rattle.scr_loss.proofs.adjustments.adj_tp.Goals as goal

pub returns-clause-encloses : goal.returns-clause-encloses
returns-clause-encloses c =
    let e : ends c.sub.result ≡ adj_tp_ends (ends c.args.bscr) (ends c.args.net) c.args.fdb = search rules in
    λ f g in_bscr in_net. Encloses-same 1000 _ _ _ _ _ (ap (λ (x : Ends). x.low) e) (ap (λ (x : Ends). x.high) e)
    (adj_tp-encloses (ends c.args.bscr) (ends c.args.net) f g c.args.fdb in_bscr in_net)
