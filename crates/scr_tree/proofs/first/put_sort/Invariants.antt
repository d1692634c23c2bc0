use Rattle.scr_parallel.specs.Rows.{rows_from}
use Rattle.scr_tree.specs.Written.{IsWrittenOf}
use Rattle.scr_tree.proofs.first.put_sort.Given as goal

-- the rows so far are written
abbrev pub invariant-loop-k : goal.invariant-loop-k
invariant-loop-k g l = IsWrittenOf l.rows.ground (rows_from l.sort 0 l.k) l.fn.figures l.figures
