use Rattle.scr_tree.proofs.Writing.{AreWrittenYet}
use Rattle.scr_tree.proofs.first_parts.write_spans.Given as goal

-- those so far are written
abbrev pub invariant-loop-j : goal.invariant-loop-j
invariant-loop-j l = AreWrittenYet l.first l.j l.spans l.fn.figures l.figures
