use Rattle.std.proofs.Common.{◌≡◌, ℕ, ◌<◌, false}
use Rattle.scr_agg.specs.Unbeaten.{alternatives}
use Rattle.scr_agg.proofs.Alternatives.{Beats}
use Rattle.scr_agg.proofs.choice.is_beaten.Given as goal

abbrev pub invariant-loop-j : goal.invariant-loop-j
invariant-loop-j l = (k : ℕ) → k < l.j → Beats (alternatives l.list) k l.place ≡ false
