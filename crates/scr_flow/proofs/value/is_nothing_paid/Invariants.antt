use Rattle.std.proofs.Common.{◌≡◌, ℕ, ◌<◌, ◌≤◌, pos, get_or}
use Rattle.scr_flow.proofs.value.is_nothing_paid.Given as goal

abbrev pub invariant-loop-k : goal.invariant-loop-k
invariant-loop-k l = (k : ℕ) → l.first ≤ k → k < l.k → get_or l.flows k (pos 0) ≡ pos 0
