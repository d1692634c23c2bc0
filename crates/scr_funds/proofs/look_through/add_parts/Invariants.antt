use Rattle.std.proofs.Common.{◌≡◌, ℕ, ◌+◌, ◌<◌, length, map, nat_eq, get_or, take}
use Rattle.scr_funds.specs.LookThrough.{falling_to}
use Rattle.scr_funds.proofs.look_through.add_parts.Given as goal

abbrev pub invariant-loop-place : goal.invariant-loop-place
invariant-loop-place l = (x : ℕ) → x < length l.initial.values
    → get_or l.values x 0 ≡ get_or l.initial.values x 0 + falling_to nat_eq x (map (λ c. c.0) (take l.place l.row))
    (take l.place l.parts)
