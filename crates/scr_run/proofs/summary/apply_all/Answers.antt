use Rattle.std.proofs.Common.{ℕ, List, length, ap, arith}
use Rattle.scr_run.proofs.ScriptSteps.{few_records}
use Rattle.scr_run.proofs.summary.apply_all.Goals as goal

pub overflow_add-counts : goal.overflow_add-counts
overflow_add-counts g c = omega (
  arith,
  few_records c.args.script.now,
  c.requires.short,
  c.loop-line.invariant.counted,
  ap (λ (lines : List (ℕ × List ℕ)). length lines) c.in-Some.ensures.steps,
)
