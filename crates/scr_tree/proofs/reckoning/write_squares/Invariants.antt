-- The squares so far are written, or stay as they are.
use Rattle.std.proofs.Common.{◌≡◌, ◌+◌, ◌-◌, length}
use Rattle.scr_tree.specs.Order.{IsJournalKept}
use Rattle.scr_tree.proofs.Still.{IsWalked}
use Rattle.scr_tree.proofs.reckoning.write_squares.Given as goal

abbrev pub invariant-loop-row : goal.invariant-loop-row
invariant-loop-row g l = record {
  numbers : l.journal.numbers.items ≡ l.fn.journal.numbers.items;
  walked : IsWalked l.basis l.fn.journal.numbers.items l.fn.journal.next l.row l.journal.next l.figures;
  long : length l.figures ≡ length l.fn.figures;
  kept : IsJournalKept l.fn.journal.former.items l.fn.figures l.journal.former.items l.figures;
  steps : l.steps ≡ l.fn.steps + l.row;
}

abbrev pub decreases-loop-row : goal.decreases-loop-row
decreases-loop-row g l = length l.basis.inputs.book.now.sheet.groups - l.row
