-- Where the figures so far became others that of each group is still within the ceiling.
use Rattle.std.proofs.Common.{◌≡◌, ℕ, ◌<◌, Some, slice_get}
use Rattle.scr_tree.specs.Ceiling.{IsWithinAt}
use Rattle.scr_tree.specs.declared.journal.Former.{Former}
use Rattle.scr_tree.proofs.reckoning.ceiling_now.Given as goal

abbrev pub invariant-loop-was : goal.invariant-loop-was
invariant-loop-was l = (k : ℕ) (was : Former) → k < l.was-index → slice_get l.former k ≡ Some was → IsWithinAt l.places l.figures l.most was.number
