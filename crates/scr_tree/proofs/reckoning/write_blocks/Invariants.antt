-- The Blocks so far are written.
use Rattle.std.proofs.Common.{◌≡◌, ℕ, ◌+◌, ◌<◌, drop, length}
use Rattle.scr_tree.specs.Order.{IsJournalKept}
use Rattle.scr_tree.specs.Ready.{AreKnownBut}
use Rattle.scr_tree.specs.SquareRun.{IsBlockAtOn}
use Rattle.scr_tree.proofs.reckoning.write_blocks.Given as goal

abbrev pub invariant-loop-index : goal.invariant-loop-index
invariant-loop-index g l = record {
  count : l.journal.next ≡ l.fn.journal.next + l.index;
  numbers : l.journal.numbers.items ≡ l.fn.journal.numbers.items;
  each : (index : ℕ) → index < l.index → IsBlockAtOn l.basis index l.fn.journal.numbers.items (l.fn.journal.next + index);
  long : length l.figures ≡ length l.fn.figures;
  known : AreKnownBut l.basis l.figures (drop l.journal.next l.fn.journal.numbers.items);
  kept : IsJournalKept l.fn.journal.former.items l.fn.figures l.journal.former.items l.figures;
  steps : l.steps ≡ l.fn.steps + l.index;
}
