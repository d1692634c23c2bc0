use Rattle.std.proofs.Common.{take}
use Rattle.scr_tree.specs.Written.{IsWrittenOf, rows_among}
use Rattle.scr_tree.proofs.first_parts.write_parts.Given as goal

-- the parts so far are written
abbrev pub invariant-loop-part : goal.invariant-loop-part
invariant-loop-part l = IsWrittenOf l.ground (rows_among (take l.part-index l.parts)) l.fn.figures l.figures
