-- What is made so far is appended.
use Rattle.scr_made.specs.Made.{best_payment}
use Rattle.scr_made.specs.Records.{Adds}
use Rattle.scr_made.specs.Draws.{each}
use Rattle.scr_made.proofs.liabilities.push_best_payments.Given as goal

abbrev pub invariant-loop-k : goal.invariant-loop-k
invariant-loop-k l = Adds (each l.k best_payment) l.fn.draws.state l.fn.best.items l.draws.state l.best.items
