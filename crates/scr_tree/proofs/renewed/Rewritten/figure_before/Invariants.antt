-- None of those so far is of the number.
use Rattle.std.proofs.Common.{◌≡◌, slice_get}
use Rattle.scr_tree.proofs.RenewedSums.{since}
use Rattle.scr_tree.proofs.renewed.Rewritten.figure_before.Given as goal

abbrev pub invariant-loop-at : goal.invariant-loop-at
invariant-loop-at l =
    slice_get (since l.self.former.now l.self.figures.now l.place) l.number ≡ slice_get (since l.self.former.now l.self.figures.now l.at) l.number
