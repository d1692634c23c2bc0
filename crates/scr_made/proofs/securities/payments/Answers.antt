-- No year has passed at first.
use Rattle.std.proofs.Common.{rules}
use Rattle.scr_made.specs.Made.{for_years}
use Rattle.scr_made.proofs.securities.payments.Goals as goal

pub loop-k-init : goal.loop-k-init
unfolding for_years
loop-k-init c = search rules
