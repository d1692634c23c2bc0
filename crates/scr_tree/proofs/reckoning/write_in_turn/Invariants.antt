use Rattle.std.proofs.Common.{◌≡◌, ◌+◌, ◌-◌, IfSome, drop, length}
use Rattle.scr_tree.specs.Order.{IsJournaled}
use Rattle.scr_tree.specs.Ready.{AreKnownBut}
use Rattle.scr_tree.specs.Still.{AreStillOn}
use Rattle.scr_tree.proofs.reckoning.write_in_turn.Given as goal

-- the figures so far are known, each by a step, and the former ones are kept; and a ceiling where the squares came and are still
abbrev pub invariant-loop-number : goal.invariant-loop-number
invariant-loop-number g l = record {
  numbers : l.journal.numbers.items ≡ l.fn.journal.numbers.items;
  known : AreKnownBut l.basis l.figures (drop l.journal.next l.fn.journal.numbers.items);
  journaled : IsJournaled l.journal.former.items l.fn.figures l.figures;
  steps : l.steps ≡ l.fn.steps + l.journal.next;
  kept : IfSome l.kept (AreStillOn l.basis);
}

abbrev pub decreases-loop-number : goal.decreases-loop-number
decreases-loop-number g l = length l.fn.journal.numbers.items - l.journal.next
