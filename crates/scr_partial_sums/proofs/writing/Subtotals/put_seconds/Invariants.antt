use Rattle.scr_sum_tree.specs.declared.blocks.Level.TheVariants as levels
use Rattle.scr_partial_sums.specs.Written.{IsPut, second_ends}
use Rattle.scr_partial_sums.proofs.writing.Subtotals.put_seconds.Given as goal

-- those so far are written
abbrev pub invariant-loop-index : goal.invariant-loop-index
invariant-loop-index l = IsPut l.self levels.Second l.index (second_ends l.fn.figures l.self l.count) l.fn.figures l.figures
