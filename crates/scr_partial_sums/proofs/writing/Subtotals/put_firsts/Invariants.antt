use Rattle.scr_sum_tree.specs.declared.blocks.Level.TheVariants as levels
use Rattle.scr_partial_sums.specs.Written.{IsPut, part_ends}
use Rattle.scr_partial_sums.proofs.writing.Subtotals.put_firsts.Given as goal

-- those so far are written
abbrev pub invariant-loop-index : goal.invariant-loop-index
invariant-loop-index l = IsPut l.self levels.First l.index (part_ends l.fn.figures l.family l.firsts) l.fn.figures l.figures
