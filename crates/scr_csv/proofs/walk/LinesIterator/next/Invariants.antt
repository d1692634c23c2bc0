-- The records that are left, where lines that are none are passed over.
use Rattle.std.proofs.Common.{◌≡◌, length}
use Rattle.scr_csv.specs.LineOrder.{lines_left}
use Rattle.scr_csv.proofs.walk.LinesIterator.next.Given as goal

-- the records that are left are those that were left at the start
abbrev pub invariant-loop-text : goal.invariant-loop-text
invariant-loop-text l = lines_left l.self ≡ lines_left l.fn.self

abbrev pub decreases-loop-text : goal.decreases-loop-text
decreases-loop-text l = length l.self.rest.now
