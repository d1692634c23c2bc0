use Rattle.std.proofs.Common.{◌≡◌, ℕ, ◌≤◌}
use Rattle.scr_counters.specs.Counts.{count_at}
use Rattle.scr_counters.proofs.counts.last_below.Given as goal

abbrev pub invariant-loop-place : goal.invariant-loop-place
invariant-loop-place l = (place : ℕ) → l.place ≤ place → count_at l.counts place ≡ 0
