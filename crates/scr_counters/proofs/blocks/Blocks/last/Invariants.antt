use Rattle.std.proofs.Common.{◌≡◌, ℕ, ◌≤◌}
use Rattle.scr_counters.specs.Blocks.{count_in}
use Rattle.scr_counters.proofs.blocks.Blocks.last.Given as goal

abbrev pub invariant-loop-block : goal.invariant-loop-block
invariant-loop-block l = (block place : ℕ) → l.block ≤ block → count_in l.self block place ≡ 0
