-- What is due at the numbers so far.
use Rattle.std.proofs.Common.{take}
use Rattle.scr_tree.specs.Together.{AreDuesOn}
use Rattle.scr_tree.proofs.together.dues_on.Given as goal

abbrev pub invariant-loop-number : goal.invariant-loop-number
invariant-loop-number l = AreDuesOn l.basis (take l.number-index l.numbers) l.dues.items
