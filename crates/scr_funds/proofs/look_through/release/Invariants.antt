use Rattle.std.proofs.Common.{◌≡◌, ℕ, ◌+◌, length, get_or, take}
use Rattle.scr_funds.specs.HandedOn.{AreReady, times}
use Rattle.scr_funds.proofs.look_through.release.Given as goal

abbrev pub invariant-loop-component : goal.invariant-loop-component
invariant-loop-component l = record {
  counts : (x : ℕ) → get_or l.waiting x 0 + times x (take l.component-index l.row) ≡ get_or l.initial.waiting x 0;
  ready : AreReady l.funds l.waiting l.ready.items;
  front : take (length l.initial.ready.items) l.ready.items ≡ l.initial.ready.items;
}
