use Rattle.std.proofs.Common.{take}
use Rattle.scr_tree.specs.Starts.{AreFormer}
use Rattle.scr_tree.proofs.starts.linked_dues.Given as goal

-- those of the numbers so far
abbrev pub invariant-loop-number : goal.invariant-loop-number
invariant-loop-number l = AreFormer (take l.number-index l.numbers) l.links.edges l.dues.items
