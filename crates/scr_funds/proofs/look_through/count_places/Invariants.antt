use Rattle.std.proofs.Common.{◌≡◌, ℕ, ◌+◌, ◌<◌, length, get_or, take}
use Rattle.scr_funds.specs.HandedOn.{times}
use Rattle.scr_funds.proofs.look_through.count_places.Given as goal

abbrev pub invariant-loop-component : goal.invariant-loop-component
invariant-loop-component l = (x : ℕ) → x < length l.initial.waiting
    → get_or l.waiting x 0 ≡ get_or l.initial.waiting x 0 + times x (take l.component-index l.row)
