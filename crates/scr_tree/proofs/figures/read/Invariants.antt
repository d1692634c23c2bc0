use Rattle.std.proofs.Common.{take}
use Rattle.scr_tree.specs.Figures.{AreReadAt}
use Rattle.scr_tree.proofs.figures.read.Given as goal

-- those so far are read
abbrev pub invariant-loop-number : goal.invariant-loop-number
invariant-loop-number l = AreReadAt l.figures (take l.number-index l.numbers) l.below
