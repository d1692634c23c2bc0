use Rattle.scr_cells.proofs.Forming.{IsForming}
use Rattle.scr_cells.proofs.lines.renew.Given as goal

abbrev pub invariant-loop-k : goal.invariant-loop-k
invariant-loop-k l = IsForming l.engine.factors l.engine.sheet l.lines.items l.text.items l.left l.k
