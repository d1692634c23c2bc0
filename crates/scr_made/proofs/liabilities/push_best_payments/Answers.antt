-- One more is made.
use Rattle.scr_made.specs.Made.{best_payment}
use Rattle.scr_made.proofs.Steps.{adds_none, adds_more}
use Rattle.scr_made.proofs.liabilities.push_best_payments.Goals as goal

pub loop-k-init : goal.loop-k-init
loop-k-init c = adds_none best_payment c.args.draws.now.state c.args.best.now.items

pub loop-k-preserved : goal.loop-k-preserved
loop-k-preserved c = adds_more c.loop-k.k best_payment _ _ _ _ _ _ c.loop-k.invariant c.in_ok-push_best_payment.ensures
