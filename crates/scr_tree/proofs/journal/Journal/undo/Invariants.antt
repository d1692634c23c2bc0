use Rattle.std.proofs.Common.{◌≡◌, length}
use Rattle.scr_tree.specs.Order.{AreWithin, undone}
use Rattle.scr_tree.proofs.journal.Journal.undo.Given as goal

-- those that are left are still to be written back
abbrev pub invariant-loop-was : goal.invariant-loop-was
invariant-loop-was l = record {
  within : AreWithin (length l.figures) l.former.items;
  back : undone l.former.items l.figures ≡ undone l.fn.self.former.items l.fn.figures;
}

abbrev pub decreases-loop-was : goal.decreases-loop-was
decreases-loop-was l = length l.former.items
